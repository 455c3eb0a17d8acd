-- Laws.
-- A round is settled: its promise leaves one answer, one row and one state of the lent words.
use Rattle.std.specs.Prelude.{ℕ, ◌≡◌, refl, cond, List, Ok, Err, eqb}
use Rattle.std.proofs.Common.{sym, ap, ◌∙◌}
use Rattle.laws.specs.Settled.{settled}
use Rattle.bench.specs.declared.Station.{Station}
use Rattle.bench.specs.declared.RoundRefusal.{RoundRefusal}
use Rattle.bench.specs.Promise.{RoundTold, RoundSaid, said, RoundPromise}

-- the refusal back from its number
abbrev refusal_of : ℕ → RoundRefusal
refusal_of n =
    cond (eqb n 38) RoundRefusal.RowSize
    (cond (eqb n 39) RoundRefusal.UnsoundStation
    (cond (eqb n 32) RoundRefusal.FewLentWords RoundRefusal.NobodyWaiting))

-- the answer back from what is said
abbrev answer_of : RoundSaid → RoundTold
answer_of r =
    cond (eqb r.number 0) (Ok (record { verdicts = r.verdicts; words = r.words; line_time = record { 0 = r.line_time } }))
    (Err (refusal_of r.number))

answer_back : (a : RoundTold) → answer_of (said a) ≡ a
answer_back (Ok a) = refl
answer_back (Err RoundRefusal.RowSize) = refl
answer_back (Err RoundRefusal.UnsoundStation) = refl
answer_back (Err RoundRefusal.FewLentWords) = refl
answer_back (Err RoundRefusal.NobodyWaiting) = refl

-- Two answers with the same number, verdicts, words and line time are the same answer.
pub said_once : (a b : RoundTold) → said a ≡ said b → a ≡ b
said_once a b e = sym (answer_back a) ∙ ap answer_of e ∙ answer_back b

-- No second answer, no other row and no other words meet the promise of a round.
pub round_settled : {entry exit exit' : List Station} {lent_entry lent_exit lent_exit' : List ℕ} {a b : RoundTold}
    → RoundPromise entry exit lent_entry lent_exit a → RoundPromise entry exit' lent_entry lent_exit' b
    → (a ≡ b) × (exit ≡ exit') × (lent_exit ≡ lent_exit')
round_settled {a} {b} p q =
    (said_once a b (settled p.says_it q.says_it), settled p.leaves_it q.leaves_it, settled p.lends_it q.lends_it)
