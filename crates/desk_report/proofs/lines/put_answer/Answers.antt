-- `desk_report::put_answer` meets its contract: what is read is what reading is defined to answer, and its line is printed.
use Rattle.desk_report.proofs.Answering.{read_prints, answer_space, answer_stepped}
use mathlib.Core.Path.{refl}
use Rattle.desk_report.proofs.lines.put_answer.Goals as goal

pub put_line-length-requires : goal.put_line-length-requires
put_line-length-requires c =
    let a = c.args in
    let h = c.requires in
    let q = c.read-answer.ensures in
    record {
      holds = (read_prints a.recording.now.customer.now a.recording.now.vehicle.now a.recording.now.widths.now a.from h.from_in_bounds refl q).holds;
      space = answer_space a.recording.now.customer.now a.recording.now.vehicle.now a.recording.now.widths.now a.from h.from_in_bounds refl q h.space;
    }

pub returns : goal.returns
returns c =
    let a = c.args in
    answer_stepped a.recording.now.customer.now a.recording.now.vehicle.now a.recording.now.widths.now a.from c.requires.from_in_bounds refl c.read-answer.ensures c.put_line-length.ensures c.after-next.ensures
