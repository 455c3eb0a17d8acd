-- Definitions.
-- What the open call from samples to intervals answers and changes: document 01, "From volts to intervals" and "When a
-- call is turned away".
use Rattle.std.specs.Prelude.{ℕ, ◌+◌, ◌≡◌, Bool, cond, List, [], ◌∷◌, ◌++◌, eqb, Float, Result, Ok, Err, length, drop}
use Rattle.laws.specs.Meant.{Test, set, unset, below}
use Rattle.laws.specs.Rules.{Rule, rule, first_rule}
use Rattle.volts.specs.Judging.{good_gate}
use Rattle.volts.specs.Levels.{judgements, some_unusable}
use Rattle.volts.specs.Intervals.{intervals_of}
use Rattle.volts.specs.declared.Gate.{Gate}
use Rattle.volts.specs.declared.TraceRefusal.{TraceRefusal}
use Rattle.volts.specs.declared.TraceRefusal.TheVariants.{TooManySamples, BadGate, TooFewWords, UnusableSample}

-- what document 01 has a call say: how many intervals it wrote, or the number under which it is turned away
pub data TraceOutcome : Type 0 where
  wrote : ℕ → TraceOutcome
  turned_away : ℕ → TraceOutcome

-- document 01's number and value of each case of the answer
abbrev pub numbered : Result ℕ TraceRefusal → TraceOutcome
numbered (Ok n) = wrote n
numbered (Err TooManySamples) = turned_away 33
numbered (Err BadGate) = turned_away 34
numbered (Err TooFewWords) = turned_away 32
numbered (Err UnusableSample) = turned_away 35

-- "A trace is at most 16,384 f32 samples"
abbrev pub most_samples : ℕ
most_samples = 16384

-- 33: "more than 16,384 samples"
abbrev pub too_many_samples : List Float → Test
too_many_samples s = below most_samples (length s)

-- 34: "gate not good"
abbrev pub gate_not_good : Gate → Test
gate_not_good g = unset (good_gate g)

-- 32: "lent words under .. samples + 1"
abbrev pub too_few_words : List Float → List ℕ → Test
too_few_words s lent = below (length lent) (length s + 1)

-- 35: "some sample unusable"
unfoldable pub sample_unusable : Gate → List Float → Bool
sample_unusable g s = some_unusable (judgements g s)

-- "Where several apply: .. volts 33, 34, 32, 35"
abbrev pub rules : Gate → List Float → List ℕ → List Rule
rules g s lent =
    rule 33 (too_many_samples s)
    ∷ rule 34 (gate_not_good g)
    ∷ rule 32 (too_few_words s lent)
    ∷ rule 35 (set (sample_unusable g s))
    ∷ []

-- what a call says, of the number of the first rule that holds and of the number of intervals, which is the answer where none
-- does
abbrev pub outcome_by : ℕ → ℕ → TraceOutcome
outcome_by number n = cond (eqb number 0) (wrote n) (turned_away number)

-- the outcome of a call with this gate, these samples and these lent words
unfoldable pub outcome : Gate → List Float → List ℕ → TraceOutcome
outcome g s lent = outcome_by (first_rule (rules g s lent)) (length (intervals_of g s))

-- "The answer is their number; words past them are unchanged." A call that is turned away changes none.
abbrev pub words_after : TraceOutcome → List ℕ → List ℕ → List ℕ
words_after (wrote n) intervals lent = intervals ++ drop n lent
words_after (turned_away k) intervals lent = lent

-- The promise of the open call: of its gate, its samples and the words lent to it, the answer that it gives and the words as
-- it leaves them.
pub record TracePromise (g : Gate) (s : List Float) (lent : List ℕ) (answer : Result ℕ TraceRefusal) (left : List ℕ) : Type 0 where
  pub answers : numbered answer ≡ outcome g s lent
  pub leaves : left ≡ words_after (outcome g s lent) (intervals_of g s) lent
