use Rattle.std.proofs.Common.{take}
use Rattle.frame.specs.Writing.{byte_widths}
use Rattle.frame_write.specs.Laid.{Lays}
use Rattle.frame_write.proofs.put_bytes.Given as goal

abbrev pub invariant-loop-b : goal.invariant-loop-b
invariant-loop-b l = Lays (byte_widths l.clock (take l.b-index l.bytes)) l.initial.lent l.lent l.next
