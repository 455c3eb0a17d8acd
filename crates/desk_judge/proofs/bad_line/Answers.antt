-- `desk_judge::bad_line` meets its contract: line 2 + k is one too many, or it has no width.
use Rattle.std.proofs.Common.{rules}
use Rattle.desk_judge.proofs.Driving.{passed_full, passed_bad}
use Rattle.desk_judge.proofs.bad_line.Goals as goal
use Rattle.desk_judge.proofs.bad_line.Goals.{then-full-via-then-full, then-full-via-else-full+then-is_none}

pub returns-then-full : goal.returns-then-full
returns-then-full c =
    let i = c.loop-t.invariant in
    let f = c.in-Some.ensures in
    elim c.then-full.branch [
      | then-full-via-then-full w ↦ search (rules, passed_full i f.0 f.1)
      | then-full-via-else-full+then-is_none w ↦ search (rules, passed_bad i f.0 f.1)
    ]
