-- `desk_report::put_end` meets its contract. Of its texts this arm's is the longest.
use mathlib.Core.Path.{◌≡◌}
use Rattle.frame.specs.declared.Reading.{Reading}
use Rattle.frame.specs.declared.Reading.TheVariants.{Unfinished}
use Rattle.desk_report.proofs.lines.put_end.Goals as goal

pub returns-in-Ok-Unfinished : goal.returns-in-Ok-Unfinished
returns-in-Ok-Unfinished c =
    let unfinished : ◌≡◌ {A = Reading} c.in-Ok-Unfinished.field-0 (Unfinished c.in-Ok-Unfinished.field-0-0) = rw c.in-Ok-Unfinished.is at c.in-Ok-Unfinished.field-0-is in
    rw (c.in-Ok-Unfinished.is, unfinished) c.put-in-Ok-Unfinished.ensures
