-- `desk_report::put_line` meets its contract: four texts, one after another.
use mathlib.Core.Path.{refl}
use Rattle.desk_report.proofs.Laying.{space_first, first, space_next, space_last, next, last}
use Rattle.desk_report.proofs.Parts.{line_parts}
use Rattle.desk_report.proofs.lines.put_line.Goals as goal

pub put_field-k1-requires : goal.put_field-k1-requires
put_field-k1-requires c =
    let a = c.args in
    space_first _ _ (rw (line_parts a.recording.now.customer.now a.recording.now.vehicle.now a.answer a.s.now refl) at c.requires.space)

pub put_field-requires : goal.put_field-requires
put_field-requires c =
    let a = c.args in
    let customer = first (rw (line_parts a.recording.now.customer.now a.recording.now.vehicle.now a.answer a.s.now refl) at c.requires.space) c.put_field-k1.ensures in
    space_next _ _ customer

pub put_place-requires : goal.put_place-requires
put_place-requires c =
    let a = c.args in
    let customer = first (rw (line_parts a.recording.now.customer.now a.recording.now.vehicle.now a.answer a.s.now c.place.ensures) at c.requires.space) c.put_field-k1.ensures in
    space_next _ _ (next customer c.put_field.ensures)

pub put_end-requires : goal.put_end-requires
put_end-requires c =
    let a = c.args in
    let customer = first (rw (line_parts a.recording.now.customer.now a.recording.now.vehicle.now a.answer a.s.now c.place.ensures) at c.requires.space) c.put_field-k1.ensures in
    record { holds = c.requires.holds; space = space_last (next (next customer c.put_field.ensures) c.put_place.ensures) }

pub returns : goal.returns
returns c =
    let a = c.args in
    let parts = line_parts a.recording.now.customer.now a.recording.now.vehicle.now a.answer a.s.now c.place.ensures in
    let customer = first (rw parts at c.requires.space) c.put_field-k1.ensures in
    rw parts (last (next (next customer c.put_field.ensures) c.put_place.ensures) c.put_end.ensures)
