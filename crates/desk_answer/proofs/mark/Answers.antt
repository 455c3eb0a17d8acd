-- `desk_answer::mark` meets its contract, arm by arm.
use mathlib.Core.Path.{sym, ap}
use Rattle.desk_answer.specs.Shown.{mark_of}
use Rattle.desk_answer.proofs.mark.Goals as goal

pub returns-in-Without : goal.returns-in-Without
returns-in-Without c = ap mark_of (sym c.in-Without.is)

pub returns-in-Plain : goal.returns-in-Plain
returns-in-Plain c = ap mark_of (sym c.in-Plain.is)

pub returns-in-Checked : goal.returns-in-Checked
returns-in-Checked c = ap mark_of (sym c.in-Checked.is)
