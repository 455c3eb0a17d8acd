-- What the tests of `intervals` say of the rules by which a call is turned away. Assumes nothing.
use Prim.Native.Nat.{ℕ, ◌+◌, ◌≤◌, ◌<◌}
use mathlib.Core.Path.{◌≡◌, refl, sym, ◌∙◌}
use mathlib.Core.Bool.{Bool, true, false}
use mathlib.Core.List.{List, [], ◌∷◌}
use native.Mathlib.Omega.{arith}
use lib.Ieee.{Float}
use lib.ListN.{length}
use Rattle.laws.specs.Tests.{never}
use Rattle.laws.specs.Rules.{NoneHolds}
use Rattle.volts.specs.Judging.{good_gate}
use Rattle.volts.specs.Intervals.{intervals_of}
use Rattle.volts.specs.Promise.{most_samples, sample_unusable, rules}
use Rattle.volts.specs.declared.Gate.{Gate}

-- what the two tests of lengths say, of the most samples and of the lent words
pub not_above : {a b : ℕ} → a ≤ b → ¬ (b < a)
not_above h k = omega arith

pub too_few : {a b : ℕ} → b ≤ a → b < a + 1
too_few h = omega arith

pub not_too_few : {a b : ℕ} → a < b → ¬ (b < a + 1)
not_too_few h k = omega arith

-- what a test `!good_gate(..)` says: that the gate is not good ..
pub gate_bad : {r a : Bool} → r ≡ a → r ≡ false → a ≡ false
gate_bad e h = sym e ∙ h

-- .. or that it is
pub gate_good : {r a : Bool} → r ≡ a → r ≡ true → ¬ (a ≡ false)
gate_good e h k = never h (e ∙ k)

-- Where every test lets the call through, no rule holds.
pub none_holds : (g : Gate) (s : List Float) (lent : List ℕ) {good found : Bool} → length s ≤ most_samples → good ≡ good_gate g → good ≡ true
    → length s < length lent → found ≡ sample_unusable g s → found ≡ false → NoneHolds (rules g s lent)
none_holds g s lent few e good words f none = (not_above few, (gate_good e good, (not_too_few words, (λ k. never k (sym f ∙ none), tt))))

-- a trace of no samples has no intervals
pub none : (g : Gate) (s : List Float) → length s ≡ 0 → intervals_of g s ≡ []
none g [] h = refl
none g (x ∷ xs) h = absurd (omega arith)
