-- Laws.
-- Loading, withdrawing and setting a clock are settled: each promise leaves one answer and one row.
use Rattle.std.specs.Prelude.{ℕ, ◌≡◌, refl, cond, List, Ok, Err, eqb}
use Rattle.std.proofs.Common.{sym, ap, ◌∙◌}
use Rattle.laws.specs.Settled.{settled}
use Rattle.symbol.specs.declared.Clock.{Clock}
use Rattle.bench.specs.declared.Station.{Station}
use Rattle.bench.specs.declared.CallRefusal.{CallRefusal}
use Rattle.bench.specs.Promise.{Called, called_number, LoadPromise, WithdrawPromise, ClockPromise}

-- the refusal back from its number
abbrev refusal_of : ℕ → CallRefusal
refusal_of n =
    cond (eqb n 38) CallRefusal.RowSize
    (cond (eqb n 39) CallRefusal.UnsoundStation
    (cond (eqb n 40) CallRefusal.NoStation
    (cond (eqb n 37) CallRefusal.BadMessage
    (cond (eqb n 36) CallRefusal.BadClock
    (cond (eqb n 41) CallRefusal.Holding CallRefusal.NothingWaiting)))))

-- the answer back from its number
abbrev called_of : ℕ → Called
called_of n = cond (eqb n 0) (Ok tt) (Err (refusal_of n))

back : (a : Called) → called_of (called_number a) ≡ a
back (Ok x) = refl
back (Err CallRefusal.RowSize) = refl
back (Err CallRefusal.UnsoundStation) = refl
back (Err CallRefusal.NoStation) = refl
back (Err CallRefusal.BadMessage) = refl
back (Err CallRefusal.BadClock) = refl
back (Err CallRefusal.Holding) = refl
back (Err CallRefusal.NothingWaiting) = refl

-- Two answers with the same number are the same answer.
pub called_once : (a b : Called) → called_number a ≡ called_number b → a ≡ b
called_once a b e = sym (back a) ∙ ap called_of e ∙ back b

-- No second answer, and no other row, meets the promise of loading.
pub load_settled : {i : ℕ} {m : List ℕ} {entry exit exit' : List Station} {a b : Called}
    → LoadPromise i m entry exit a → LoadPromise i m entry exit' b → (a ≡ b) × (exit ≡ exit')
load_settled {a} {b} p q = (called_once a b (settled p.answers_it q.answers_it), settled p.leaves_it q.leaves_it)

-- The same for withdrawing.
pub withdraw_settled : {i : ℕ} {entry exit exit' : List Station} {a b : Called}
    → WithdrawPromise i entry exit a → WithdrawPromise i entry exit' b → (a ≡ b) × (exit ≡ exit')
withdraw_settled {a} {b} p q = (called_once a b (settled p.answers_it q.answers_it), settled p.leaves_it q.leaves_it)

-- The same for setting a clock.
pub clock_settled : {i : ℕ} {c : Clock} {entry exit exit' : List Station} {a b : Called}
    → ClockPromise i c entry exit a → ClockPromise i c entry exit' b → (a ≡ b) × (exit ≡ exit')
clock_settled {a} {b} p q = (called_once a b (settled p.answers_it q.answers_it), settled p.leaves_it q.leaves_it)
