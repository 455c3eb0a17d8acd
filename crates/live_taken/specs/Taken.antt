-- Machinery.
-- One interval that is not refused, as the code takes it.
use Rattle.std.specs.Prelude.{ℕ, Bool, List, set, Ok}
use Rattle.symbol.specs.Classes.{class_of, end_of}
use Rattle.frame.specs.declared.Sign.{Sign}
use Rattle.frame.specs.Line.{active_at}
use Rattle.frame.specs.Faults.{most_bytes}
use Rattle.frame_machine.specs.declared.Machine.{Machine}
use Rattle.frame_machine.specs.declared.Event.{Event}
use Rattle.frame_machine.specs.declared.Event.TheVariants.{Going, Byte, Closed, Faulty}
use Rattle.frame_machine.specs.declared.Stepped.{Stepped}
use Rattle.frame_machine.specs.Steps.{step_of}
use Rattle.frame_tests.specs.Shown.{sign_for}
use Rattle.frame_parts.specs.Laying.{laid_of}
use Rattle.live_held.specs.declared.Inside.{Inside}
use Rattle.live_held.specs.declared.Live.{Live}
use Rattle.live_held.specs.Reader.{held_by, begins_anew}
use Rattle.live_answer.specs.declared.Heard.TheVariants.{Nothing}
use Rattle.live_answer.specs.declared.Fed.{Fed}
use Rattle.live_answer.specs.Answered.{still_open, closed_frame, fault_heard}

-- what an event of the machine does, where it then holds m; `end` says whether the interval is an end
abbrev pub fed_by : Event → Live → Machine → (end : Bool) → Fed
fed_by Going v m end = still_open v m v.inside.kept
fed_by (Byte b) v m end = still_open v m (set v.inside.kept (held_by v.inside).count b)
fed_by Closed v m end = closed_frame v (held_by v.inside) end
fed_by (Faulty f) v m end = fault_heard v f end

-- what the next interval of a reader shows, which has the width w
abbrev pub sign_at : Live → ℕ → Sign
sign_at v w = sign_for (class_of (active_at v.places.next) w)

-- what the machine of a reader does at it
abbrev pub step_at : Live → ℕ → Stepped
step_at v w = step_of most_bytes (held_by v.inside) (sign_at v w)

-- whether that interval is an end
abbrev pub ends_at : Live → ℕ → Bool
ends_at v w = end_of (active_at v.places.next) w

-- an interval that stands in no frame
abbrev pub waiting : Live → ℕ → Fed
waiting v w = record { heard = Ok Nothing; live = begins_anew v v.places.from (ends_at v w) }

-- what an event does to the lent bytes: until the frame is closed its "bytes stay inside", and then they are laid where enough
-- is lent for them
abbrev pub laid_by : Event → Inside → List ℕ → List ℕ
laid_by Going i lent = lent
laid_by (Byte b) i lent = lent
laid_by Closed i lent = laid_of (held_by i).count i.kept lent
laid_by (Faulty f) i lent = lent
