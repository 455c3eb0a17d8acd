-- `bench_calls::withdraw_on` meets its contract: the first rules decide, or that of withdrawing does.
use Rattle.std.proofs.Common.{rules}
use Rattle.bench.specs.Calls.{withdraw_rules}
use Rattle.bench_calls.specs.Changes.{station_of}
use Rattle.bench_calls.specs.ChangeLaws.{decided}
use Rattle.bench_calls.proofs.withdraw_on.Goals as goal

pub returns : goal.returns
returns c =
    let a = c.args in
    decided a.held a.place (withdraw_rules (station_of a.held a.place)) _ _ c.at_place.ensures (λ x p. search rules)
