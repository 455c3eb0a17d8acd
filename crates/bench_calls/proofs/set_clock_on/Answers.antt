-- `bench_calls::set_clock_on` meets its contract: the first rules decide, or that of setting a clock does.
use Rattle.std.proofs.Common.{rules}
use Rattle.bench.specs.Calls.{clock_rules}
use Rattle.bench_calls.specs.ChangeLaws.{decided}
use Rattle.bench_calls.proofs.set_clock_on.Goals as goal

pub returns : goal.returns
returns c =
    let a = c.args in
    decided a.held a.place (clock_rules a.clock) _ _ c.at_place.ensures (λ x p. search rules)
