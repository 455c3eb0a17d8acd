use Rattle.std.proofs.Common.{◌≡◌, take}
use Rattle.bench.specs.Course.{asked}
use Rattle.bench_line.specs.Lanes.{asked_by, seats_at}
use Rattle.bench_line.proofs.lanes.all_ask.Given as goal

abbrev pub invariant-loop-sender : goal.invariant-loop-sender
invariant-loop-sender l = l.asked ≡ asked_by l.active (asked (seats_at l.active l.j (take l.sender-index l.senders)))
