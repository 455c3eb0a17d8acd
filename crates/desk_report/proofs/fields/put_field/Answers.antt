-- `desk_report::put_field` meets its contract: the field, and the tab after it.
use Rattle.desk_report.proofs.Laying.{then}
use Rattle.desk_report.proofs.fields.put_field.Goals as goal

pub returns : goal.returns
returns c = then c.requires c.put-k.ensures c.put.ensures
