-- Laws.
-- Twelve lent bytes are enough for whatever a reader holds.
use Rattle.std.specs.Prelude.{ℕ, ◌≤◌, ◌≡◌, List, length}
use Rattle.std.proofs.Common.{arith}
use Rattle.frame.specs.Faults.{most_bytes}
use Rattle.frame_machine.specs.declared.Event.TheVariants.{Closed}
use Rattle.frame_parts.specs.Laying.{laid, laid_enough}
use Rattle.live_held.specs.declared.Inside.{Inside}
use Rattle.live_held.specs.HeldLaws.{held_few}
use Rattle.live_held.specs.Reader.{held_by}
use Rattle.live_taken.specs.Taken.{laid_by}

-- The interval that closes a frame lays all its bytes, and the rest of the lent ones stay as they are.
pub laid_closed : (i : Inside) (lent : List ℕ) → most_bytes ≤ length lent → laid_by Closed i lent ≡ laid (held_by i).count i.kept lent
laid_closed i lent h = laid_enough (held_by i).count i.kept lent (held_few i) (omega (arith, h, held_few i))
