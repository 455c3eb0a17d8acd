use Rattle.desk_judge.proofs.Driving.{Passed}
use lib.ListN.{length}
use Rattle.desk_judge.proofs.bad_line.Given as goal

abbrev pub invariant-loop-t : goal.invariant-loop-t
invariant-loop-t l = Passed l.s l.t l.k

abbrev pub decreases-loop-t : goal.decreases-loop-t
decreases-loop-t l = length l.t
