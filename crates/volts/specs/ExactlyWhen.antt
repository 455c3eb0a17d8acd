-- Laws.
-- When the open call gives which answer: each refusal exactly when its rule is the first to hold, with the words as they
-- were, and a number of intervals exactly when no rule holds. Laws, with what has to be so for each outcome.
use Rattle.std.specs.Prelude.{ℕ, ◌<◌, ◌≡◌, Bool, true, false, cond, List, ◌++◌, ◌↔◌, eqb, Float, Result, Ok, Err, length, drop}
use Rattle.std.proofs.Math.Path.{refl, sym, ap}
use Rattle.std.proofs.Common.{◌∙◌, arith}
use borrow.Author.Tests.{eqb-true, ne_eqb}
use Rattle.laws.specs.Rules.{first_rule, FirstToHold, NoneHolds, TurnedAway}
use Rattle.laws.specs.RuleLaws.{first_is, none_is}
use Rattle.volts.specs.Intervals.{intervals_of}
use Rattle.volts.specs.Promise.{TraceOutcome, wrote, turned_away, numbered, rules, outcome_by, outcome, words_after, TracePromise}
use Rattle.volts.specs.declared.Gate.{Gate}
use Rattle.volts.specs.declared.TraceRefusal.{TraceRefusal}
use Rattle.volts.specs.declared.TraceRefusal.TheVariants.{TooManySamples, BadGate, TooFewWords, UnusableSample}

-- what has to be so of a call for each outcome
abbrev pub RuleOf : Gate → List Float → List ℕ → TraceOutcome → Type 0
RuleOf g s lent (wrote n) = NoneHolds (rules g s lent) × (n ≡ length (intervals_of g s))
RuleOf g s lent (turned_away k) = FirstToHold k (rules g s lent)

-- the number of an outcome; 0 where intervals are written
abbrev refused_as : TraceOutcome → ℕ
refused_as (wrote n) = 0
refused_as (turned_away k) = k

-- the value of an outcome
abbrev value_of : TraceOutcome → ℕ
value_of (wrote n) = n
value_of (turned_away k) = 0

as_number : (k n : ℕ) → refused_as (outcome_by k n) ≡ k
as_number k n = go (eqb k 0) refl
  where
    go : (t : Bool) → eqb k 0 ≡ t → refused_as (cond t (wrote n) (turned_away k)) ≡ k
    go true e = sym (eqb-true k 0 e)
    go false e = refl

module _ (g : Gate) (s : List Float) (lent : List ℕ) where
  -- The outcome is refusal k exactly when rule k is the first to hold ..
  refused : (k : ℕ) → 0 < k → (outcome g s lent ≡ turned_away k) ↔ FirstToHold k (rules g s lent)
  unfolding outcome
  refused k h =
      let law = first_is k (rules g s lent) h refl in (
        λ e. law.0 (sym (as_number (first_rule (rules g s lent)) (length (intervals_of g s))) ∙ ap refused_as e),
        λ f. rw (law.1 f, ne_eqb k 0 (λ e. omega arith)),
      )

  -- .. and n intervals exactly when none holds and there are n.
  written_is : (n : ℕ) → (outcome g s lent ≡ wrote n) ↔ RuleOf g s lent (wrote n)
  unfolding outcome
  written_is n =
      let law = none_is (rules g s lent) refl in
      let zero : outcome_by (first_rule (rules g s lent)) (length (intervals_of g s)) ≡ wrote n → first_rule (rules g s lent) ≡ 0 =
      λ e. sym (as_number (first_rule (rules g s lent)) (length (intervals_of g s))) ∙ ap refused_as e in (
        λ e. (law.0 (zero e), sym (ap value_of (rw (zero e) at e))),
        λ f. rw (law.1 f.0, f.1),
      )

  by_rule : (r : Result ℕ TraceRefusal) → RuleOf g s lent (numbered r) → outcome g s lent ≡ numbered r
  by_rule (Ok n) h = (written_is n).1 h
  by_rule (Err TooManySamples) h = (refused 33 (omega arith)).1 h
  by_rule (Err BadGate) h = (refused 34 (omega arith)).1 h
  by_rule (Err TooFewWords) h = (refused 32 (omega arith)).1 h
  by_rule (Err UnusableSample) h = (refused 35 (omega arith)).1 h

  -- a call whose answer's rule holds, and that leaves the words that belong to that answer, keeps the promise
  pub promised : {r : Result ℕ TraceRefusal} {left : List ℕ} → RuleOf g s lent (numbered r) → left ≡ words_after (numbered r) (intervals_of g s) lent → TracePromise g s lent r left
  promised {r} h e = record { answers = sym (by_rule r h); leaves = rw (by_rule r h) e }

module _ {g : Gate} {s : List Float} {lent : List ℕ} {r : Result ℕ TraceRefusal} {left : List ℕ} (p : TracePromise g s lent r left) where
  -- a call that is turned away, under whichever number, has written nothing
  pub untouched : (k : ℕ) → numbered r ≡ turned_away k → left ≡ lent
  untouched k e = p.leaves ∙ rw (sym p.answers ∙ e)

  -- Each refusal, 33, 34, 32 and 35, comes exactly when its rule is the first of `rules` to hold, and leaves the words as
  -- they were.
  pub exactly : (k : ℕ) → 0 < k → TurnedAway (numbered r) (turned_away k) (FirstToHold k (rules g s lent)) (left ≡ lent)
  exactly k h =
      let law = refused g s lent k h in
      record { exactly = (λ e. law.0 (sym p.answers ∙ e), λ f. p.answers ∙ law.1 f); unchanged = λ f. untouched k (p.answers ∙ law.1 f) }

  -- n intervals are written exactly when no rule holds and the trace has n of them
  pub exactly_written : (n : ℕ) → (numbered r ≡ wrote n) ↔ (NoneHolds (rules g s lent) × (n ≡ length (intervals_of g s)))
  exactly_written n = (λ e. (written_is g s lent n).0 (sym p.answers ∙ e), λ h. p.answers ∙ (written_is g s lent n).1 h)

  -- and then they stand first in the lent words, and the rest is as it was
  pub written : (n : ℕ) → numbered r ≡ wrote n → left ≡ intervals_of g s ++ drop n lent
  written n e = p.leaves ∙ rw (sym p.answers ∙ e)
