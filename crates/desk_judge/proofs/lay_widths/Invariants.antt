use Rattle.desk_judge.proofs.Driving.{Left}
use lib.ListN.{length}
use Rattle.desk_judge.proofs.lay_widths.Given as goal

abbrev pub invariant-loop-e : goal.invariant-loop-e
invariant-loop-e l = Left l.s l.t l.initial.lent l.lent l.k

abbrev pub decreases-loop-e : goal.decreases-loop-e
decreases-loop-e l = length l.t
