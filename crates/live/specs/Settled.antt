-- Laws.
-- Two answers of a live reader with the same number and values are the same answer. The contracts of its calls are equations, so
-- that they are settled by that alone.
use Rattle.std.specs.Prelude.{◌≡◌, refl, cond, List, [], ◌∷◌, eqb, Result, Ok, Err}
use Rattle.std.proofs.Common.{sym, ap, ◌∙◌, inl, inr, arith}
use Rattle.frame.specs.ReadPromise.{Told}
use Rattle.frame.proofs.ReadSettled.{fault_of, fault_back}
use Rattle.frame.proofs.FaultLaws.{other_number}
use Rattle.live_answer.specs.declared.Heard.{Heard}
use Rattle.live_answer.specs.declared.Heard.TheVariants.{Nothing, Frame, Faulty}
use Rattle.live_answer.specs.declared.HearRefusal.{HearRefusal}
use Rattle.live_answer.specs.declared.HearRefusal.TheVariants.{PastPlaces, FewLentBytes}
use Rattle.live.specs.declared.Asked.{Asked}
use Rattle.live.specs.declared.Asked.TheVariants.{Quiet, Unfinished}
use Rattle.live.specs.Promise.{told_by, asked_told}

-- ## An interval

-- the answer back from what is told of it
abbrev heard_of : List Told → Result Heard HearRefusal
heard_of [] = Ok Nothing
heard_of (t ∷ ts) =
    cond (eqb t.number 0) (Ok (Frame (record { main = t.main_length; response = t.response_length }) t.response (record { 0 = t.opening }) (record { 0 = t.next })))
    (cond (eqb t.number 51) (Err PastPlaces)
    (cond (eqb t.number 32) (Err FewLentBytes) (Ok (Faulty (fault_of t.number) (record { 0 = t.next })))))

back : (h : Result Heard HearRefusal) → heard_of (told_by h) ≡ h
back (Ok Nothing) = refl
back (Ok (Frame lengths response opening next)) = refl
back (Ok (Faulty f next)) =
    rw (other_number f 0 (inl (omega arith)), other_number f 51 (inr (omega arith)), other_number f 32 (inr (omega arith)), fault_back f)
back (Err PastPlaces) = refl
back (Err FewLentBytes) = refl

-- Two answers to an interval with the same number and values are the same answer.
pub heard_once : (a b : Result Heard HearRefusal) → told_by a ≡ told_by b → a ≡ b
heard_once a b e = sym (back a) ∙ ap heard_of e ∙ back b

-- ## Asking

abbrev asked_of : Told → Asked
asked_of t = cond (eqb t.number 1) (Quiet (record { 0 = t.next })) (Unfinished (record { 0 = t.opening }))

asked_back : (a : Asked) → asked_of (asked_told a) ≡ a
asked_back (Quiet next) = refl
asked_back (Unfinished opening) = refl

-- The same for what asking answers.
pub asked_once : (a b : Asked) → asked_told a ≡ asked_told b → a ≡ b
asked_once a b e = sym (asked_back a) ∙ ap asked_of e ∙ asked_back b
