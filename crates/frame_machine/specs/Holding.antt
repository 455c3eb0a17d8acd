-- Definitions.
-- What the machine holds before an interval: all of it is read off where the interval stands in document 01's sense.
use Rattle.std.specs.Prelude.{ℕ, ◌<◌, ◌≤◌, Bool, List, [], ◌++◌, length, ◌≡◌}
use Rattle.checkbyte.specs.Register.{register_of}
use Rattle.frame.specs.Bits.{bytes}
use Rattle.frame.specs.ReadStated.{left_over, shifted_in}
use Rattle.frame.specs.Standing.{plain, checked, Standing, at_sof, in_main, at_normalization, in_response, stands}
use Rattle.frame.specs.Faults.{facts, main_bytes, response_bytes}
use Rattle.frame_machine.specs.declared.Phase.{Phase}
use Rattle.frame_machine.specs.declared.Phase.TheVariants.{Sof, Main, Normalization, Plain, Checked}
use Rattle.frame_machine.specs.declared.Machine.{Machine}
use Rattle.frame.specs.Line.{Line}

-- the phase of each standing
abbrev pub phase_of : Standing → Phase
phase_of at_sof = Sof
phase_of (in_main m) = Main
phase_of (at_normalization m) = Normalization
phase_of (in_response plain m r) = Plain
phase_of (in_response checked m r) = Checked

-- the bytes that stand before the part
abbrev pub earlier : Standing → List ℕ
earlier at_sof = []
earlier (in_main m) = []
earlier (at_normalization m) = bytes m
earlier (in_response k m r) = bytes m

-- all bytes so far: the main part's, then the response's
abbrev pub so_far : Standing → List ℕ
so_far st = main_bytes st ++ response_bytes st

-- what is held in a phase, with the bits of the part, the bytes before it, and all bytes so far
abbrev pub holding_by : Phase → List Bool → List ℕ → List ℕ → Machine
holding_by phase part before all =
    record { phase = phase; partial = shifted_in 1 (left_over part); count = length all; began = length before; register = register_of (bytes part) }

-- the machine that holds what stands before an interval
unfoldable pub holding : Standing → Machine
holding st = holding_by (phase_of st) (facts st).part (earlier st) (so_far st)

-- before the interval at k, in the frame that opens at o: the machine holds what stands before k, and there are no more bytes
-- than a frame may have
pub record Before (limit : ℕ) (l : Line) (o k : ℕ) (m : Machine) : Type 0 where
  pub opened : o < k
  pub few : length (so_far (stands l o k)) ≤ limit
  pub holds : m ≡ holding (stands l o k)
