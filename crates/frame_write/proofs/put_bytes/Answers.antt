-- `frame_write::put_bytes` meets its contract: the bytes so far are laid.
use Rattle.frame_write.proofs.Words.{none_laid, byte_space, byte_laid}
use Rattle.frame_write.proofs.put_bytes.Goals as goal

pub loop-b-init : goal.loop-b-init
loop-b-init c = none_laid c.args.clock c.args.lent.now

pub put_byte-next-requires : goal.put_byte-next-requires
put_byte-next-requires c = byte_space c.args.clock c.args.bytes.now c.loop-b.b-index c.loop-b.invariant c.loop-b-test.true c.requires

pub loop-b-preserved : goal.loop-b-preserved
loop-b-preserved c = byte_laid c.args.clock c.args.bytes.now c.loop-b.b-index c.loop-b.invariant c.loop-b-test.true c.requires c.put_byte-next.ensures
