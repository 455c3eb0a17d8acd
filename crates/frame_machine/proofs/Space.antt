-- Laws.
-- The machine tells of a byte only where a frame may have it: one with as many bytes as it may have takes no bit more.
use Rattle.std.specs.Prelude.{ℕ, ◌+◌, ◌≤◌, ◌<◌, ◌≡◌, Bool, true, false, cond, ◌&&◌, ◌⊎◌, eqb, ltb}
use Rattle.std.proofs.Math.Path.{refl}
use Rattle.std.proofs.Math.Bool.{not}
use Rattle.std.proofs.Common.{inl, inr, arith}
use Rattle.laws.specs.Tests.{up_to}
use Rattle.checkbyte.specs.Register.{residue}
use Rattle.frame.specs.declared.Fault.TheVariants.{NoSof, LateSof, SplitByte, FewBytes, WrongCheck, ThirteenthByte}
use Rattle.frame.specs.declared.Sign.{Sign}
use Rattle.frame.specs.declared.Sign.TheVariants.{Bit, Shut, Sof as Start, Wrong}
use Rattle.frame_machine.specs.declared.Phase.{Phase}
use Rattle.frame_machine.specs.declared.Phase.TheVariants.{Sof, Main, Normalization, Plain, Checked}
use Rattle.frame_machine.specs.declared.Machine.{Machine}
use Rattle.frame_machine.specs.declared.Event.{Event}
use Rattle.frame_machine.specs.declared.Event.TheVariants.{Going, Byte, Closed, Faulty}
use Rattle.frame_machine.specs.declared.Stepped.{Stepped}
use Rattle.frame_machine.specs.Steps.{faulty, closing, begun, part_of, sof_phase, needed_of, eod_in, eod_of, close_of, bit_of, sof_of, step_of}
use Rattle.frame_machine.proofs.BitDoes.{push_full}

-- the event tells of a byte
abbrev tells : Event → Bool
tells Going = false
tells (Byte b) = true
tells Closed = false
tells (Faulty f) = false

either : (c : Bool) (x y : Stepped) → tells x.event ≡ false → tells y.event ≡ false → tells (cond c x y).event ≡ false
either true x y p q = p
either false x y p q = q

at_eod : (p : Phase) (m : Machine) → tells (eod_in p m).event ≡ false
at_eod Sof m = refl
at_eod Main m = refl
at_eod Normalization m = refl
at_eod Plain m = refl
at_eod Checked m = refl

module _ (limit : ℕ) (m : Machine) (full : limit ≤ m.count) where
  of_bit : (one : Bool) → tells (bit_of limit m one).event ≡ false
  unfolding bit_of
  of_bit one =
      rw (push_full limit m one full)
      (either (part_of m.phase) (faulty m ThirteenthByte) _ refl (either (sof_phase m.phase) (faulty m NoSof) _ refl (either one (begun m Plain) (begun m Checked) refl refl)))

  of_shut : (eod : Bool) → tells (close_of m eod).event ≡ false
  unfolding close_of
  of_shut eod =
      either (not (eqb m.partial 1)) (faulty m SplitByte) _ refl
      (either (ltb m.count (m.began + (needed_of m.phase).fewest)) (faulty m FewBytes) _ refl
      (either ((needed_of m.phase).checked && not (eqb m.register residue)) (faulty m WrongCheck) _ refl
      (either eod (eod_of m) (closing m) (at_eod m.phase m) refl)))

  of_sign : (s : Sign) → tells (step_of limit m s).event ≡ false
  unfolding sof_of
  of_sign (Bit one) = of_bit one
  of_sign (Shut eod) = of_shut eod
  of_sign Start = either (sof_phase m.phase) (begun m Main) (faulty m LateSof) refl refl
  of_sign (Wrong f) = refl

-- A byte that the machine tells of is one that the frame may have.
pub has_space : (limit : ℕ) (m : Machine) (s : Sign) (t : Stepped) (b : ℕ) → t ≡ step_of limit m s → t.event ≡ Byte b → m.count < limit
has_space limit m s t b e g = go (up_to limit m.count)
  where
    go : (limit ≤ m.count) ⊎ (m.count < limit) → m.count < limit
    go (inl h) = let z : ◌≡◌ {A = ℕ} 0 1 = cc (of_sign limit m h s) in absurd (omega arith)
    go (inr h) = h
