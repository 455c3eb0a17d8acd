-- `desk_report::put_refusal` meets its contract: three texts, one after another.
use Rattle.desk_report.proofs.Laying.{first, next, last}
use Rattle.desk_report.proofs.put_refusal.Goals as goal

pub returns : goal.returns
returns c = last (next (first c.requires c.put-k1.ensures) c.put_number.ensures) c.put.ensures
