-- `desk_report::put_fault` meets its contract: three texts, one after another.
use mathlib.Core.Path.{refl}
use Rattle.desk_report.proofs.Laying.{space_first, first, space_next, space_last, next, last}
use Rattle.desk_report.proofs.Parts.{fault_parts}
use Rattle.desk_report.proofs.fields.put_fault.Goals as goal

pub put-k1-requires : goal.put-k1-requires
put-k1-requires c = space_first _ _ (rw (fault_parts c.args.fault refl) at c.requires)

pub put_number-requires : goal.put_number-requires
put_number-requires c = space_next _ _ (first (rw (fault_parts c.args.fault c.fault_number.ensures) at c.requires) c.put-k1.ensures)

pub put-requires : goal.put-requires
put-requires c =
    let worded = first (rw (fault_parts c.args.fault c.fault_number.ensures) at c.requires) c.put-k1.ensures in
    space_last (next worded c.put_number.ensures)

pub returns : goal.returns
returns c =
    let parts = fault_parts c.args.fault c.fault_number.ensures in
    rw parts (last (next (first (rw parts at c.requires) c.put-k1.ensures) c.put_number.ensures) c.put.ensures)
