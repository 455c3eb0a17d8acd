-- `desk_report::put_hex` meets its contract: what is laid so far and the bytes left are the whole.
use Rattle.desk_report.proofs.Laying.{none_yet, hex_space, hex_next, hex_end}
use borrow.Author.Rules.{rules}
use Rattle.desk_report.proofs.fields.put_hex.Goals as goal

pub loop-b-init : goal.loop-b-init
loop-b-init c = search (rules, none_yet)

pub put-k-requires : goal.put-k-requires
put-k-requires c = search (rules, hex_space)

pub loop-b-preserved : goal.loop-b-preserved
loop-b-preserved c = search (rules, hex_next)

pub returns : goal.returns
returns c = search (rules, hex_end)
