-- Definitions.
-- Readings worked out on paper, computed from the definitions.
use Rattle.std.specs.Prelude.{ℕ, ◌≡◌, refl, List, [], ◌∷◌, map}
use Rattle.symbol.specs.Classes.{class_of}
use Rattle.checkbyte.specs.Register.{shift, eight_shifts, step_of, register_from, check_of}
use Rattle.frame.specs.declared.Response.TheVariants.{Without}
use Rattle.frame.specs.Bits.{bytes}
use Rattle.frame.specs.Line.{symbol_at, first, opening, bits_from}
use Rattle.frame.specs.Standing.{stands}
use Rattle.frame.specs.Faults.{most_bytes, checks_out, fault}
use Rattle.frame.specs.Reading.{Good, Outcome, good, quiet, decides, read_on, reading}

-- a recording, a position, and what reading from it answers
pub record Worked : Type 0 where
  pub intervals : List ℕ
  pub position : ℕ
  pub answer : Outcome

-- what the definitions answer, with as many bytes lent as a frame can have
abbrev pub answered : Worked → Outcome
answered w = reading w.intervals w.position most_bytes

-- what is written down for it
abbrev pub expected : Worked → Outcome
expected w = w.answer

-- "300, 200, eight times (128, 64), 300"
abbrev pub ffff : List ℕ
ffff =
    300 ∷ 200 ∷ 128 ∷ 64 ∷ 128 ∷ 64 ∷ 128 ∷ 64 ∷ 128 ∷ 64 ∷ 128 ∷ 64 ∷ 128 ∷ 64 ∷ 128 ∷ 64 ∷ 128 ∷ 64 ∷ 300 ∷ []

-- the frame FF FF without a response, opened at 0, with 18 next
abbrev pub ffff_read : Good
ffff_read = record { main = 0xFF ∷ 0xFF ∷ []; response = []; kind = Without; opening = 0; next = 18 }

-- From 0 it is a frame FF FF without a response, opened at 0, with 18 next; from 18 it is quiet, with 18 next.
abbrev pub worked_readings : List Worked
worked_readings =
    record { intervals = ffff; position = 0; answer = good ffff_read }
    ∷ record { intervals = ffff; position = 18; answer = quiet 18 }
    ∷ []

-- The definitions answer what is written down.
pub readings_worked : map answered worked_readings ≡ map expected worked_readings
unfolding read_on opening decides stands fault checks_out bytes first symbol_at bits_from class_of check_of register_from step_of eight_shifts shift
readings_worked = refl
