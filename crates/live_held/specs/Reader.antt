-- Machinery.
-- A live reader as the code holds it: the frame machine taken out of its numbers, and the reader after an interval.
use Rattle.std.specs.Prelude.{ℕ, min, Bool, true, false, cond, List, eqb}
use Rattle.frame.specs.Faults.{most_bytes}
use Rattle.frame_machine.specs.declared.Phase.{Phase}
use Rattle.frame_machine.specs.declared.Phase.TheVariants.{Sof, Main, Normalization, Plain, Checked}
use Rattle.frame_machine.specs.declared.Machine.{Machine}
use Rattle.frame_machine.specs.Steps.{fresh}
use Rattle.live_held.specs.declared.Inside.{Inside}
use Rattle.live_held.specs.declared.Live.{Live}
use Rattle.live_held.specs.Held.{inside_of, outside, after}

-- ## The machine

-- the phase that a number stands for
abbrev pub phase_by : ℕ → Phase
phase_by n = cond (eqb n 1) Sof (cond (eqb n 2) Normalization (cond (eqb n 3) Main (cond (eqb n 4) Plain Checked)))

-- What the frame machine holds in a reader. Whatever the reader's bytes are, it counts no more bytes than a frame has, and
-- no part begins after them.
unfoldable pub held_by : Inside → Machine
held_by i =
    record {
      phase = phase_by i.phase;
      partial = i.partial;
      register = i.register;
      count = min i.count most_bytes;
      began = min i.began (min i.count most_bytes);
    }

-- ## After an interval

-- The reader after an interval outside of a frame, or one that ends a frame: "A closing end may thus open the next frame", and
-- so may an end at fault.
unfoldable pub begins_anew : Live → (from : ℕ) → (end : Bool) → Live
begins_anew v from true =
    record { places = after v.places from v.places.next; inside = inside_of fresh v.inside.kept }
begins_anew v from false =
    record { places = after v.places from v.places.opening; inside = outside v.inside.kept }

-- the reader after an interval that leaves its frame open
unfoldable pub goes_on : Live → Machine → (kept : List ℕ) → Live
goes_on v m kept = record { places = after v.places v.places.from v.places.opening; inside = inside_of m kept }
