-- `bench_line::all_ask` meets its contract: what the places ask, one after the other.
use Rattle.std.proofs.Common.{refl}
use Rattle.bench.specs.Course.{asked}
use Rattle.bench_line.specs.LoopLaws.{ask_more}
use Rattle.bench_line.proofs.lanes.all_ask.Goals as goal

pub loop-sender-init : goal.loop-sender-init
unfolding asked
loop-sender-init c = refl

pub loop-sender-preserved : goal.loop-sender-preserved
loop-sender-preserved c =
    ask_more _ _ _ c.loop-sender.sender-index _ c.loop-sender.invariant c.loop-sender-test.true
    _ c.sender-item.is _ c.asks.ensures _ c.taken_in-asked.ensures
