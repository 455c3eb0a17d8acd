use Rattle.frame_read.proofs.Undecided.{Undecided}
use Rattle.frame_read.proofs.read_open.Given as goal

abbrev pub invariant-loop-i : goal.invariant-loop-i
invariant-loop-i l = Undecided l.intervals l.opening l.i l.initial.lent l.lent l.held l.kept
