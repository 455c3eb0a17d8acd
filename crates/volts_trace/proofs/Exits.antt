-- The ways out of `intervals`: what the tests on the way say of the rule of the answer that is given. Assumes nothing.
use Prim.Native.Nat.{ℕ, ◌≤◌, ◌<◌}
use mathlib.Core.Path.{◌≡◌, refl, sym, ◌∙◌}
use mathlib.Core.Bool.{Bool, true, false}
use mathlib.Core.List.{List, ◌++◌}
use lib.Ieee.{Float}
use Rattle.std.specs.Prelude.{Ok, Err}
use lib.ListN.{length, drop}
use Rattle.volts.specs.Judging.{good_gate}
use Rattle.volts.specs.Intervals.{intervals_of}
use Rattle.volts.specs.Promise.{most_samples, sample_unusable, TracePromise}
use Rattle.volts.specs.ExactlyWhen.{promised}
use Rattle.volts.specs.declared.Gate.{Gate}
use Rattle.volts.specs.declared.TraceRefusal.TheVariants.{TooManySamples, BadGate, TooFewWords, UnusableSample}
use Rattle.volts_trace.proofs.Rules.{not_above, too_few, not_too_few, gate_bad, gate_good, none_holds, none}

module _ (g : Gate) (s : List Float) (lent : List ℕ) where
  pub too_many : most_samples < length s → TracePromise g s lent (Err TooManySamples) lent
  too_many h = promised _ _ _ h refl

  pub bad_gate : {good : Bool} → length s ≤ most_samples → good ≡ good_gate g → good ≡ false → TracePromise g s lent (Err BadGate) lent
  bad_gate few e bad = promised _ _ _ (not_above few, gate_bad e bad) refl

  pub few_words : {good : Bool} → length s ≤ most_samples → good ≡ good_gate g → good ≡ true → length lent ≤ length s
      → TracePromise g s lent (Err TooFewWords) lent
  few_words few e good words = promised _ _ _ (not_above few, (gate_good e good, too_few words)) refl

  pub some_unusable : {good found : Bool} → length s ≤ most_samples → good ≡ good_gate g → good ≡ true → length s < length lent
      → found ≡ sample_unusable g s → found ≡ true → TracePromise g s lent (Err UnusableSample) lent
  some_unusable few e good words f some =
      promised _ _ _ (not_above few, (gate_good e good, (not_too_few words, sym f ∙ some))) refl

  pub nothing : {good found : Bool} → length s ≤ most_samples → good ≡ good_gate g → good ≡ true → length s < length lent
      → found ≡ sample_unusable g s → found ≡ false → length s ≡ 0 → TracePromise g s lent (Ok 0) lent
  nothing few e good words f usable h =
      let empty = none g s h in promised _ _ _ (none_holds g s lent few e good words f usable, rw empty) (rw empty)

  pub counted : {good found : Bool} {n : ℕ} {left : List ℕ} → length s ≤ most_samples → good ≡ good_gate g → good ≡ true
      → length s < length lent → found ≡ sample_unusable g s → found ≡ false → n ≡ length (intervals_of g s)
      → left ≡ intervals_of g s ++ drop n lent → TracePromise g s lent (Ok n) left
  counted few e good words f usable n left = promised _ _ _ (none_holds g s lent few e good words f usable, n) left
