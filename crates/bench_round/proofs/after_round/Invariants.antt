-- The loop of `bench_round::after_round` sees to the stations, place by place.
use Rattle.bench_round.specs.Playing.{Settling}
use Rattle.bench_round.proofs.after_round.Given as goal

abbrev pub invariant-loop-i : goal.invariant-loop-i
invariant-loop-i l = Settling l.initial.station-items l.verdicts l.station-items l.i
