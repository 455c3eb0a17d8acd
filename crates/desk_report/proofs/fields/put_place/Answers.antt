-- `desk_report::put_place` meets its contract: the number, and the tab after it.
use Rattle.desk_report.proofs.Laying.{then}
use Rattle.desk_report.proofs.fields.put_place.Goals as goal

pub returns : goal.returns
returns c = then c.requires c.put_number-k.ensures c.put.ensures
