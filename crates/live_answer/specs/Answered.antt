-- Machinery.
-- What an interval answers that is not refused, and the reader after it, as the code has them.
use Rattle.std.specs.Prelude.{ℕ, Bool, true, false, List, Result, Ok, Err}
use Rattle.units.specs.declared.LongPlace.{LongPlace}
use Rattle.frame.specs.declared.Fault.{Fault}
use Rattle.frame_machine.specs.declared.Machine.{Machine}
use Rattle.frame_parts.specs.declared.Parts.{Parts}
use Rattle.frame_parts.specs.Parts.{parts_of}
use Rattle.live_held.specs.declared.Live.{Live}
use Rattle.live_held.specs.Reader.{begins_anew, goes_on}
use Rattle.live_answer.specs.declared.Heard.{Heard}
use Rattle.live_answer.specs.declared.Heard.TheVariants.{Nothing, Frame, Faulty}
use Rattle.live_answer.specs.declared.HearRefusal.{HearRefusal}
use Rattle.live_answer.specs.declared.Fed.{Fed}

-- a place by its number
abbrev pub long_place : ℕ → LongPlace
long_place k = record { 0 = k }

-- the frame that a machine closes
abbrev pub heard_frame : Parts → (opening closing : ℕ) → Heard
heard_frame p opening closing = Frame p.lengths p.response (long_place opening) (long_place closing)

-- an interval that decides nothing yet
abbrev pub still_open : Live → Machine → (kept : List ℕ) → Fed
still_open v m kept = record { heard = Ok Nothing; live = goes_on v m kept }

-- the interval that closes the frame which the machine m holds
abbrev pub closed_frame : Live → Machine → (end : Bool) → Fed
closed_frame v m end =
    record { heard = Ok (heard_frame (parts_of m) v.places.opening v.places.next); live = begins_anew v v.places.next end }

-- an interval at fault
abbrev pub fault_heard : Live → Fault → (end : Bool) → Fed
fault_heard v f end =
    record { heard = Ok (Faulty f (long_place v.places.next)); live = begins_anew v v.places.next end }

-- the answer is a refusal
abbrev pub is_refusal : Result Heard HearRefusal → Bool
is_refusal (Ok heard) = false
is_refusal (Err why) = true
