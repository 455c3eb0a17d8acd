use Rattle.std.proofs.Common.{◌≡◌}
use Rattle.bench.specs.Course.{asked}
use Rattle.bench_line.specs.Lanes.{asked_by, seats_at}
use Rattle.bench_line.specs.Sending.{Sending}
use Rattle.bench_line.proofs.sending.send_bits.Given as goal

abbrev pub invariant-loop-j : goal.invariant-loop-j
invariant-loop-j l =
    Sending l.initial.senders l.initial.words l.senders l.active l.j l.words
    × (l.asked ≡ asked_by l.active (asked (seats_at l.active l.j l.senders)))
