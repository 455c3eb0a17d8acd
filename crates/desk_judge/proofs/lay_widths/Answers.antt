-- `desk_judge::lay_widths` meets its contract: there is a word for the line that ends at the newline found, and its width goes there.
use Rattle.std.proofs.Common.{rules}
use Rattle.desk_judge.proofs.Driving.{left_word, left_next}
use Rattle.desk_judge.proofs.lay_widths.Goals as goal

pub bounds-lent-k : goal.bounds-lent-k
bounds-lent-k c = left_word c.loop-e.invariant c.in-Some.ensures.0 c.in-Some.ensures.1

pub loop-e-preserved : goal.loop-e-preserved
loop-e-preserved c =
    let i = c.loop-e.invariant in
    let f = c.in-Some.ensures in
    search (rules, left_next i f.0 f.1)
