-- `bench_calls::load_on` meets its contract: the first rules decide, or those of loading do.
use Rattle.std.proofs.Common.{rules}
use Rattle.bench.specs.Calls.{load_rules}
use Rattle.bench_calls.specs.Changes.{station_of}
use Rattle.bench_calls.specs.ChangeLaws.{decided}
use Rattle.bench_calls.proofs.load_on.Goals as goal

pub returns : goal.returns
returns c =
    let a = c.args in
    decided a.held a.place (load_rules a.message.now (station_of a.held a.place)) _ _ c.at_place.ensures (λ x p. search rules)
