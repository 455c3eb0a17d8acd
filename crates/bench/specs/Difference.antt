-- Laws.
-- Where a loser loses: at the first bit where the winner's bits differ from its own, or one past its last bit.
use Rattle.std.specs.Prelude.{ℕ, suc, ◌+◌, ◌≡◌, refl, ◌≢◌, Bool, true, false, [], ◌∷◌, ◌++◌, length}
use Rattle.std.proofs.Common.{ap, ◌∙◌, arith}
use Rattle.std.proofs.lemmas.Bool.{false≢true}
use Rattle.laws.specs.Tests.{never}
use Rattle.bench.specs.declared.Fared.TheVariants.{Through, Lost}
use Rattle.bench.specs.Stations.{Bits}
use Rattle.bench.specs.Order.{ahead}
use Rattle.bench.specs.RoundStated.{against, FirstDifference, other_bit, past_last}

-- ## The bit at which it loses

at_other : (n : ℕ) (same ws ms : Bits) (b c : Bool) → b ≢ c → against n (same ++ (b ∷ ws)) (same ++ (c ∷ ms)) ≡ Lost (n + length same)
unfolding against
at_other n [] ws ms true true d = absurd (d refl)
at_other n [] ws ms true false d = ap Lost (omega arith)
at_other n [] ws ms false true d = ap Lost (omega arith)
at_other n [] ws ms false false d = absurd (d refl)
at_other n (true ∷ same) ws ms b c d = at_other (suc n) same ws ms b c d ∙ ap Lost (omega arith)
at_other n (false ∷ same) ws ms b c d = at_other (suc n) same ws ms b c d ∙ ap Lost (omega arith)

at_past : (n : ℕ) (m : Bits) (b : Bool) (ws : Bits) → against n (m ++ (b ∷ ws)) m ≡ Lost (n + length m)
unfolding against
at_past n [] b ws = ap Lost (omega arith)
at_past n (true ∷ m) b ws = at_past (suc n) m b ws ∙ ap Lost (omega arith)
at_past n (false ∷ m) b ws = at_past (suc n) m b ws ∙ ap Lost (omega arith)

-- Against the winner a message loses at the first difference.
pub lost_there : {w m : Bits} {k : ℕ} → FirstDifference w m k → against 1 w m ≡ Lost k
lost_there (other_bit same ws ms b c d e f) = rw (e, f) (at_other 1 same ws ms b c d ∙ ap Lost (omega arith))
lost_there {m = m} (past_last b ws e) = rw e (at_past 1 m b ws ∙ ap Lost (omega arith))

-- There is no second first difference.
pub difference_once : {w m : Bits} {j k : ℕ} → FirstDifference w m j → FirstDifference w m k → j ≡ k
difference_once {w} {m} {j} {k} d e = let p : against 1 w m ≡ Lost j = lost_there d in let q : against 1 w m ≡ Lost k = lost_there e in cc

-- ## A message that the winner is ahead of has one

more : (b : Bool) {w m : Bits} {k : ℕ} → FirstDifference w m k → FirstDifference (b ∷ w) (b ∷ m) (suc k)
more b (other_bit same ws ms x y d e f) = other_bit (b ∷ same) ws ms x y d (ap (λ (r : Bits). b ∷ r) e) (ap (λ (r : Bits). b ∷ r) f)
more b (past_last c ws e) = past_last c ws (ap (λ (r : Bits). b ∷ r) e)

-- A message that the winner is ahead of differs from it somewhere.
pub differs : (w m : Bits) → ahead w m ≡ true → (k : ℕ) × FirstDifference w m k
unfolding ahead
differs [] m h = never h refl
differs (b ∷ w) [] h = (1, past_last b w refl)
differs (false ∷ w) (true ∷ m) h = (1, other_bit [] w m false true false≢true refl refl)
differs (true ∷ w) (false ∷ m) h = never h refl
differs (false ∷ w) (false ∷ m) h = let r = differs w m h in (suc r.0, more false r.1)
differs (true ∷ w) (true ∷ m) h = let r = differs w m h in (suc r.0, more true r.1)

-- The winner's own message gets through.
pub same_through : (n : ℕ) (w : Bits) → against n w w ≡ Through
unfolding against
same_through n [] = refl
same_through n (true ∷ w) = same_through (suc n) w
same_through n (false ∷ w) = same_through (suc n) w
