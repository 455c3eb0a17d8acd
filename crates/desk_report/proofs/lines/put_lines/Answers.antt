-- `desk_report::put_lines` meets its contract: the line of the answer is laid, and fewer are left.
use Rattle.desk_report.proofs.Driving.{line_space, lines_next, lines_less}
use Rattle.desk_report.proofs.lines.put_lines.Goals as goal

pub put_answer-step-requires-clause-space : goal.put_answer-step-requires-clause-space
put_answer-step-requires-clause-space c = line_space _ _ _ c.args.lent.now c.loop-next.lent c.loop-next.k c.in-Some.is c.loop-next.invariant

pub loop-next-preserved : goal.loop-next-preserved
loop-next-preserved c = lines_next _ _ _ c.args.lent.now c.loop-next.lent c.loop-next.k c.in-Some.is c.loop-next.invariant c.put_answer-step.ensures

pub loop-next-smaller : goal.loop-next-smaller
loop-next-smaller c = lines_less _ _ _ c.args.lent.now c.loop-next.lent c.loop-next.k c.in-Some.is c.loop-next.invariant c.put_answer-step.ensures
