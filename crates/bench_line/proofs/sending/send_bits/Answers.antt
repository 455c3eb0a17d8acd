-- `bench_line::send_bits` meets its contract: what is written and what is still to come make up the whole, at each bit.
use Rattle.std.proofs.Common.{rules}
use Rattle.bench_line.specs.Sending.{sending_more, sending_over, sending_last}
use Rattle.bench_line.proofs.sending.send_bits.Goals as goal

pub returns-in_default : goal.returns-in_default
returns-in_default c = sending_over c.loop-j.invariant.0 (search rules)

pub loop-j-preserved : goal.loop-j-preserved
loop-j-preserved c = (
  sending_more c.loop-j.invariant.0 c.loop-j-test.true _ (search rules) _ (rw (← c.on_line.ensures) c.hear-asked.ensures.hears),
  c.hear-asked.ensures.asks,
)

pub returns : goal.returns
returns c = sending_last c.loop-j.invariant.0 (search rules)
