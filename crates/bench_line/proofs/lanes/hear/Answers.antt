-- `bench_line::hear` meets its contract: each place hears the bit, and asks at the one after it.
use Rattle.std.proofs.Common.{rules, refl}
use Rattle.bench_line.specs.LoopLaws.{hear_start, hear_more, hear_all, asks_all}
use Rattle.bench_line.proofs.lanes.hear.Goals as goal

pub loop-sender-init : goal.loop-sender-init
loop-sender-init c = hear_start _ _ _ _

pub loop-sender-preserved : goal.loop-sender-preserved
loop-sender-preserved c =
    hear_more c.loop-sender.invariant (search rules) _ (search rules) _ c.asks-ask.ensures _ c.hear.ensures refl
    _ c.asks-next.ensures _ c.taken_in-asked.ensures

pub returns-clause-hears : goal.returns-clause-hears
returns-clause-hears c = hear_all c.loop-sender.invariant (search rules)

pub returns-clause-asks : goal.returns-clause-asks
returns-clause-asks c = asks_all c.loop-sender.invariant (search rules)
