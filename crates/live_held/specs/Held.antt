-- Definitions.
-- What a live reader holds: its places, and the frame that it hears.
use Rattle.std.specs.Prelude.{ℕ, ◌+◌, cond, List, eqb}
use Rattle.frame_machine.specs.declared.Machine.{Machine}
use Rattle.frame_machine.specs.declared.Phase.{Phase}
use Rattle.frame_machine.specs.declared.Phase.TheVariants.{Sof, Main, Normalization, Plain, Checked}
use Rattle.live_held.specs.declared.Inside.{Inside}
use Rattle.live_held.specs.declared.Places.{Places}

-- "Places are counted in 64 bits": the last of them
abbrev pub last_place : ℕ
last_place = 18446744073709551615

-- what a reader's phase is where it hears no frame
abbrev pub no_frame : ℕ
no_frame = 0

-- what says that the last place has been heard
abbrev pub all_heard : ℕ
all_heard = 1

-- the number of each phase of the frame machine in a reader that hears a frame
abbrev pub phase_number : Phase → ℕ
phase_number Sof = 1
phase_number Normalization = 2
phase_number Main = 3
phase_number Plain = 4
phase_number Checked = 5

-- a frame that is being heard, by what the machine holds and by its bytes so far
unfoldable pub inside_of : Machine → List ℕ → Inside
inside_of m kept =
    record { count = m.count; began = m.began; kept = kept; phase = phase_number m.phase; partial = m.partial; register = m.register }

-- no frame
unfoldable pub outside : List ℕ → Inside
outside kept = record { count = 0; began = 0; kept = kept; phase = no_frame; partial = 0; register = 0 }

-- the places after an interval, with the position from which reading goes on and the opening
unfoldable pub after : Places → (from opening : ℕ) → Places
after p from opening =
    record {
      next = cond (eqb p.next last_place) p.next (p.next + 1);
      from = from;
      opening = opening;
      full = cond (eqb p.next last_place) all_heard 0;
    }
