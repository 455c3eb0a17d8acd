-- Laws.
-- That nothing but one answer and one list of words meets the promise of the open call.
use Rattle.std.specs.Prelude.{◌≡◌, refl, cond, List, ℕ, eqb, Float, Result, Ok, Err}
use Rattle.std.proofs.Common.{sym, ap, ◌∙◌}
use Rattle.laws.specs.Settled.{settled}
use Rattle.volts.specs.Promise.{TraceOutcome, wrote, turned_away, numbered, TracePromise}
use Rattle.volts.specs.declared.Gate.{Gate}
use Rattle.volts.specs.declared.TraceRefusal.{TraceRefusal}
use Rattle.volts.specs.declared.TraceRefusal.TheVariants.{TooManySamples, BadGate, TooFewWords, UnusableSample}

-- the case of the answer that a number of document 01 stands for; of a number that the call never gives, any will do
abbrev case_of : TraceOutcome → Result ℕ TraceRefusal
case_of (wrote n) = Ok n
case_of (turned_away k) = Err (cond (eqb k 33) TooManySamples (cond (eqb k 34) BadGate (cond (eqb k 32) TooFewWords UnusableSample)))

case_back : (r : Result ℕ TraceRefusal) → case_of (numbered r) ≡ r
case_back (Ok n) = refl
case_back (Err TooManySamples) = refl
case_back (Err BadGate) = refl
case_back (Err TooFewWords) = refl
case_back (Err UnusableSample) = refl

-- two answers with the same number and value are the same answer
pub same_number : (a b : Result ℕ TraceRefusal) → numbered a ≡ numbered b → a ≡ b
same_number a b e = sym (case_back a) ∙ ap case_of e ∙ case_back b

-- two answers that meet the promise of one call are equal, and so are the words that they leave
pub trace_settled : {g : Gate} {s : List Float} {lent : List ℕ} {a b : Result ℕ TraceRefusal} {u v : List ℕ} → TracePromise g s lent a u → TracePromise g s lent b v → (a ≡ b) × (u ≡ v)
trace_settled {a = a} {b = b} p q = (same_number a b (settled p.answers q.answers), settled p.leaves q.leaves)
