-- Laws.
-- What the rule of 35 says of a trace: that there is a sample in it which the gate judges unusable.
use Rattle.std.specs.Prelude.{ℕ, zero, suc, ◌≡◌, refl, true, ◌||◌, List, [], ◌∷◌, ◌↔◌, Float}
use Rattle.std.proofs.Math.Bool.{or-true}
use Rattle.std.proofs.Common.{arith}
use Rattle.volts.specs.Judging.{judged}
use Rattle.volts.specs.Levels.{is_unusable}
use Rattle.volts.specs.Promise.{sample_unusable}
use Rattle.volts.specs.declared.Gate.{Gate}
use Rattle.volts.specs.declared.Judged.{Judged}
use Rattle.volts.specs.declared.Judged.TheVariants.{Active, Passive, Between, Unusable}
use Rattle.volts.specs.Stated.{UnusableIn}

one_later : (g : Gate) (x : Float) (xs : List Float) → UnusableIn g xs → UnusableIn g (x ∷ xs)
one_later g x xs (i, h, e) = (suc i, omega arith, e)

found : (g : Gate) (s : List Float) → sample_unusable g s ≡ true → UnusableIn g s
unfolding sample_unusable
found g [] t = let z : ◌≡◌ {A = ℕ} 0 1 = cc in absurd (omega arith)
found g (x ∷ xs) t = here (judged g x) refl t (found g xs)
  where
    here : (j : Judged) → judged g x ≡ j → (is_unusable j || sample_unusable g xs) ≡ true
        → (sample_unusable g xs ≡ true → UnusableIn g xs) → UnusableIn g (x ∷ xs)
    here (Active d) e t rest = one_later g x xs (rest t)
    here (Passive d) e t rest = one_later g x xs (rest t)
    here (Between d) e t rest = one_later g x xs (rest t)
    here Unusable e t rest = (0, omega arith, e)

told : (g : Gate) (s : List Float) → UnusableIn g s → sample_unusable g s ≡ true
unfolding sample_unusable
told g [] (i, h, e) = absurd (omega arith)
told g (x ∷ xs) (zero, h, e) = rw e
told g (x ∷ xs) (suc i, h, e) = rw (told g xs (i, omega arith, e), or-true)

-- "some sample unusable"
pub somewhere : (g : Gate) (s : List Float) → (sample_unusable g s ≡ true) ↔ UnusableIn g s
somewhere g s = (found g s, told g s)
