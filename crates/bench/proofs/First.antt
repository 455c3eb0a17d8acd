-- Laws.
-- The first of messages by the order: it is one of them, and none of them is ahead of it.
use Rattle.std.specs.Prelude.{◌≡◌, refl, ◌⊎◌, ◌≢◌, Bool, true, false, cond, ◌||◌, List, [], ◌∷◌}
use Rattle.std.proofs.Math.Bool.{or-true}
use Rattle.laws.specs.Tests.{never}
use Rattle.bench.specs.Stations.{Bits}
use Rattle.bench.specs.Order.{ahead, same_bits}
use Rattle.bench.proofs.OrderLaws.{irreflexive, asymmetric, equal_or_ahead, not_ahead_transitive, same_true, same_refl}
use Rattle.bench.specs.Histories.{among}
use Rattle.bench.specs.RoundStated.{first_of, first}

-- ## Of two

-- a message alone
pub first_none : (x : Bits) → first_of x [] ≡ x
unfolding first_of ahead
first_none [] = refl
first_none (b ∷ x) = refl

either_way : {A B : Type 0} (f : A → B) (t : Bool) (x y : A) → cond t (f x) (f y) ≡ f (cond t x y)
either_way f true x y = refl
either_way f false x y = refl

-- a bit that both begin with
pub first_same_bit : (b : Bool) (x y : Bits) → first_of (b ∷ x) (b ∷ y) ≡ b ∷ first_of x y
unfolding first_of ahead
first_same_bit true x y = either_way (λ (r : Bits). true ∷ r) (ahead x y) x y
first_same_bit false x y = either_way (λ (r : Bits). false ∷ r) (ahead x y) x y

left_not_ahead : (x y : Bits) → ahead x (first_of x y) ≡ false
unfolding first_of
left_not_ahead x y = go (ahead x y) refl
  where
    go : (b : Bool) → ahead x y ≡ b → ahead x (cond b x y) ≡ false
    go true e = irreflexive x
    go false e = e

right_not_ahead : (x y : Bits) → ahead y (first_of x y) ≡ false
unfolding first_of
right_not_ahead x y = go (ahead x y) refl
  where
    go : (b : Bool) → ahead x y ≡ b → ahead y (cond b x y) ≡ false
    go true e = asymmetric x y e
    go false e = irreflexive y

-- ## Of many

-- None of them is ahead of the first.
pub none_ahead : (m : Bits) (xs : List Bits) → among m xs ≡ true → ahead m (first xs) ≡ false
unfolding first among
none_ahead m [] h = never h refl
none_ahead m (x ∷ xs) h = go (same_bits m x) refl (none_ahead m xs) h
  where
    go : (b : Bool) → same_bits m x ≡ b → (among m xs ≡ true → ahead m (first xs) ≡ false) → (b || among m xs) ≡ true
        → ahead m (first_of x (first xs)) ≡ false
    go true e ih h = rw (same_true m x e) (left_not_ahead x (first xs))
    go false e ih h = not_ahead_transitive m (first xs) (first_of x (first xs)) (ih h) (right_not_ahead x (first xs))

-- The first is one of them, unless there is none with a bit.
pub first_among : (xs : List Bits) → first xs ≢ [] → among (first xs) xs ≡ true
unfolding first among first_of
first_among [] h = absurd (h refl)
first_among (x ∷ xs) h = go (ahead x (first xs)) (first_among xs) h
  where
    go : (b : Bool) → (first xs ≢ [] → among (first xs) xs ≡ true) → cond b x (first xs) ≢ []
        → (same_bits (cond b x (first xs)) x || among (cond b x (first xs)) xs) ≡ true
    go true ih h = rw (same_refl x)
    go false ih h = rw (ih h, or-true)

-- Where one of them has bits, the first has.
pub first_some : (m : Bits) (xs : List Bits) → m ≢ [] → among m xs ≡ true → first xs ≢ []
unfolding ahead
first_some m xs n h e = go m n (rw e at (none_ahead m xs h))
  where
    go : (x : Bits) → x ≢ [] → ahead x [] ≡ false → ⊥
    go [] d a = d refl
    go (b ∷ x) d a = never refl a

-- Each of them is the first, or the first is ahead of it.
pub first_or_ahead : (m : Bits) (xs : List Bits) → among m xs ≡ true → (m ≡ first xs) ⊎ (ahead (first xs) m ≡ true)
first_or_ahead m xs h = equal_or_ahead m (first xs) (none_ahead m xs h)
