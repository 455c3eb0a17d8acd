use Rattle.bench_line.specs.LoopLaws.{Hearing}
use Rattle.bench_line.proofs.lanes.hear.Given as goal

abbrev pub invariant-loop-sender : goal.invariant-loop-sender
invariant-loop-sender l = Hearing l.active l.j l.one l.initial.senders l.senders l.sender-index l.asked
