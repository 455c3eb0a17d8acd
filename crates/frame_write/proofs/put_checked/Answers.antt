-- `frame_write::put_checked` meets its contract: the bytes, and after them their check byte.
use Rattle.std.proofs.Common.{rules}
use Rattle.frame_write.proofs.Words.{check_laid}
use Rattle.frame_write.proofs.put_checked.Goals as goal

pub returns : goal.returns
returns c = search (rules, check_laid)
