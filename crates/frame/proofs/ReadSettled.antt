-- Laws.
-- Reading is settled: the promise of the call leaves one answer and one state of the lent bytes.
use Rattle.std.specs.Prelude.{ℕ, ◌≡◌, refl, cond, List, eqb, Result, Ok, Err}
use Rattle.std.proofs.Common.{sym, ap, ◌∙◌, inl, inr, arith}
use Rattle.laws.specs.Settled.{settled}
use Rattle.frame.specs.declared.Fault.{Fault}
use Rattle.frame.specs.declared.Fault.TheVariants.{Noise, NoSof, Break, Stuck, LateSof, SplitByte, FewBytes, WrongCheck, EodAfterResponse, ThirteenthByte}
use Rattle.frame.specs.declared.Reading.{Reading}
use Rattle.frame.specs.declared.Reading.TheVariants.{Frame, Quiet, Unfinished, Faulty}
use Rattle.frame.specs.declared.ReadRefusal.{ReadRefusal}
use Rattle.frame.specs.declared.ReadRefusal.TheVariants.{PastRecording, FewLentBytes}
use Rattle.frame.specs.ReadPromise.{fault_number, Told, told, ReadPromise}
use Rattle.frame.proofs.FaultLaws.{other_number}

-- the fault of a number; of a number that no fault has, any will do
abbrev pub fault_of : ℕ → Fault
fault_of n =
    cond (eqb n 11) Noise
    (cond (eqb n 12) NoSof
    (cond (eqb n 13) Break
    (cond (eqb n 14) Stuck
    (cond (eqb n 15) LateSof
    (cond (eqb n 16) SplitByte
    (cond (eqb n 17) FewBytes
    (cond (eqb n 18) WrongCheck
    (cond (eqb n 19) EodAfterResponse ThirteenthByte))))))))

-- It is the fault whose number it is.
pub fault_back : (f : Fault) → fault_of (fault_number f) ≡ f
fault_back Noise = refl
fault_back NoSof = refl
fault_back Break = refl
fault_back Stuck = refl
fault_back LateSof = refl
fault_back SplitByte = refl
fault_back FewBytes = refl
fault_back WrongCheck = refl
fault_back EodAfterResponse = refl
fault_back ThirteenthByte = refl

-- the answer back from what is told of it
abbrev answer_of : Told → Result Reading ReadRefusal
answer_of t =
    cond (eqb t.number 0) (Ok (Frame (record { main = t.main_length; response = t.response_length }) t.response (record { 0 = t.opening }) (record { 0 = t.next })))
    (cond (eqb t.number 1) (Ok (Quiet (record { 0 = t.next })))
    (cond (eqb t.number 2) (Ok (Unfinished (record { 0 = t.opening })))
    (cond (eqb t.number 31) (Err PastRecording)
    (cond (eqb t.number 32) (Err FewLentBytes) (Ok (Faulty (fault_of t.number) (record { 0 = t.next })))))))

back : (r : Result Reading ReadRefusal) → answer_of (told r) ≡ r
back (Ok (Frame lengths response opening next)) = refl
back (Ok (Quiet next)) = refl
back (Ok (Unfinished opening)) = refl
back (Ok (Faulty f next)) =
    rw (
      other_number f 0 (inl (omega arith)),
      other_number f 1 (inl (omega arith)),
      other_number f 2 (inl (omega arith)),
      other_number f 31 (inr (omega arith)),
      other_number f 32 (inr (omega arith)),
      fault_back f,
    )
back (Err PastRecording) = refl
back (Err FewLentBytes) = refl

-- Two answers with the same number and values are the same answer.
pub told_once : (r s : Result Reading ReadRefusal) → told r ≡ told s → r ≡ s
told_once r s e = sym (back r) ∙ ap answer_of e ∙ back s

-- No second answer, and no other state of the lent bytes, meets the promise of reading.
pub read_settled : {ws : List ℕ} {p : ℕ} {entry exit exit' : List ℕ} {r s : Result Reading ReadRefusal}
    → ReadPromise ws p entry exit r → ReadPromise ws p entry exit' s → (r ≡ s) × (exit ≡ exit')
read_settled {r} {s} a b = (told_once r s (settled a.tells_it b.tells_it), settled a.lends_it b.lends_it)
