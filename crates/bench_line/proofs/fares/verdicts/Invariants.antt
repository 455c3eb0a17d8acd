use Rattle.std.proofs.Common.{◌≡◌}
use Rattle.bench_line.specs.Lanes.{verdict_at}
use Rattle.bench_line.specs.LoopLaws.{filled_with}
use Rattle.bench_line.proofs.fares.verdicts.Given as goal

abbrev pub invariant-loop-i : goal.invariant-loop-i
invariant-loop-i l = l.all ≡ filled_with verdict_at l.senders l.initial.all l.i
