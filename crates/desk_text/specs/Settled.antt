-- Laws.
-- The desk's calls are settled: each promise leaves one answer and one state of everything lent.
use Rattle.std.specs.Prelude.{ℕ, ◌≡◌, refl, cond, List, eqb, Result, Ok, Err}
use Rattle.std.proofs.Common.{sym, ap, ◌∙◌}
use Rattle.laws.specs.Settled.{settled}
use Rattle.desk_text.specs.declared.GoodInput.{GoodInput}
use Rattle.desk_text.specs.declared.InputRefusal.{InputRefusal}
use Rattle.desk_text.specs.declared.InputRefusal.TheVariants.{Bad, FewLentWords}
use Rattle.desk_text.specs.declared.Answered.{Answered}
use Rattle.desk_text.specs.declared.Answered.TheVariants.{Report, Refused}
use Rattle.desk_text.specs.declared.FewLent.{FewLent}
use Rattle.desk_text.specs.Promise.{JudgedTale, judged_told, JudgePromise, DeskTale, answered_told, DeskPromise}

-- the answer back from what is told of it
abbrev judged_of : JudgedTale → Result GoodInput InputRefusal
judged_of t =
    cond (eqb t.number 0) (Ok (record { labels = record { customer = t.customer; vehicle = t.vehicle }; widths = t.widths }))
    (Err (cond (eqb t.number 62) (Bad t.line) FewLentWords))

judged_back : (r : Result GoodInput InputRefusal) → judged_of (judged_told r) ≡ r
judged_back (Ok good) = refl
judged_back (Err (Bad line)) = refl
judged_back (Err FewLentWords) = refl

-- .. and the desk's answer
abbrev answered_of : DeskTale → Result Answered FewLent
answered_of t =
    cond (eqb t.number 0) (Ok (Report t.length))
    (cond (eqb t.number 62) (Ok (Refused t.line t.length)) (Err (record {})))

answered_back : (r : Result Answered FewLent) → answered_of (answered_told r) ≡ r
answered_back (Ok (Report length)) = refl
answered_back (Ok (Refused line length)) = refl
answered_back (Err few) = refl

-- Two answers with the same number and values are the same answer.
pub judged_once : (r s : Result GoodInput InputRefusal) → judged_told r ≡ judged_told s → r ≡ s
judged_once r s e = sym (judged_back r) ∙ ap judged_of e ∙ judged_back s

-- the same for the desk's answers
pub answered_once : (r s : Result Answered FewLent) → answered_told r ≡ answered_told s → r ≡ s
answered_once r s e = sym (answered_back r) ∙ ap answered_of e ∙ answered_back s

-- No second answer, and no other state of the lent words, meets the promise of judging.
pub judge_settled : {s entry exit exit' : List ℕ} {q r : Result GoodInput InputRefusal} → JudgePromise s entry exit q → JudgePromise s entry exit' r → (q ≡ r) × (exit ≡ exit')
judge_settled {q} {r} a b = (judged_once q r (settled a.tells_it b.tells_it), settled a.lends_it b.lends_it)

-- No second answer, and no other state of the lent words and bytes, meets the promise of the desk.
pub desk_settled : {s words left left' entry exit exit' : List ℕ} {q r : Result Answered FewLent}
    → DeskPromise s words left entry exit q → DeskPromise s words left' entry exit' r → (q ≡ r) × (left ≡ left') × (exit ≡ exit')
desk_settled {q} {r} a b = (answered_once q r (settled a.tells_it b.tells_it), settled a.words_it b.words_it, settled a.lends_it b.lends_it)
