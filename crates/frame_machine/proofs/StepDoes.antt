-- Laws.
-- One interval more, from every standing, by every sign.
use Rattle.std.specs.Prelude.{ℕ, ◌≤◌, ◌<◌, ◌≡◌, refl, true, false, length, eqb}
use Rattle.std.proofs.Common.{inl, arith}
use Rattle.checkbyte.specs.Register.{register_from}
use Rattle.frame.specs.declared.Fault.{Fault}
use Rattle.frame.specs.declared.Fault.TheVariants.{LateSof}
use Rattle.frame.specs.declared.Sign.{Sign}
use Rattle.frame.specs.declared.Sign.TheVariants.{Bit, Shut, Sof, Wrong}
use Rattle.frame.specs.Signs.{wrong, sof}
use Rattle.frame.specs.Standing.{plain, checked, Standing, at_sof, in_main, at_normalization, in_response}
use Rattle.frame.specs.ReadPromise.{fault_number}
use Rattle.frame.proofs.BitLaws.{bytes_none, left_over_none}
use Rattle.frame.proofs.FaultLaws.{sof_fault, wrong_fault, named_range, other_number}
use Rattle.frame_machine.specs.Steps.{faulty, sof_of, step_of, fresh}
use Rattle.frame_machine.specs.Meaning.{meaning_of}
use Rattle.frame_machine.specs.Holding.{so_far, holding}
use Rattle.frame_machine.specs.Does.{Does, faults, goes}
use Rattle.frame_machine.proofs.BitDoes.{bit_does}
use Rattle.frame_machine.proofs.CloseDoes.{eod_does, end_does}

-- No fault has the number 0.
pub some_fault : (f : Fault) → eqb (fault_number f) 0 ≡ false
some_fault f = other_number f 0 (inl (omega arith))

-- Its number is above 0.
pub positive : (f : Fault) → 0 < fault_number f
positive f = omega (arith, (named_range (fault_number f) (record { fault_is = f; number_is = refl })).0)

-- The machine starts with what stands before the SOF: nothing.
pub fresh_holds : fresh ≡ holding at_sof
unfolding holding register_from
fresh_holds = rw (left_over_none, bytes_none)

sof_does : (limit : ℕ) (st : Standing) → Does limit st sof (sof_of (holding st))
unfolding sof_of holding register_from
sof_does limit at_sof = goes (sof_fault limit at_sof) refl (rw (left_over_none, bytes_none)) refl
sof_does limit (in_main m) = faults LateSof (sof_fault limit (in_main m)) refl
sof_does limit (at_normalization m) = faults LateSof (sof_fault limit (at_normalization m)) refl
sof_does limit (in_response plain m r) = faults LateSof (sof_fault limit (in_response plain m r)) refl
sof_does limit (in_response checked m r) = faults LateSof (sof_fault limit (in_response checked m r)) refl

wrong_does : (limit : ℕ) (st : Standing) (f : Fault) → Does limit st (wrong (fault_number f)) (faulty (holding st) f)
wrong_does limit st f = faults f (wrong_fault limit st (fault_number f) (positive f)) refl

-- The step does what document 01 says, from every standing and by every sign.
pub step_does : (limit : ℕ) (st : Standing) (s : Sign) → length (so_far st) ≤ limit → Does limit st (meaning_of s) (step_of limit (holding st) s)
step_does limit st (Bit one) h = bit_does limit st one h
step_does limit st (Shut true) h = eod_does limit st
step_does limit st (Shut false) h = end_does limit st
step_does limit st Sof h = sof_does limit st
step_does limit st (Wrong f) h = wrong_does limit st f
