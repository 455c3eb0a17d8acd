use Rattle.desk_reason.proofs.Skipping.{Sought}
use Rattle.desk_reason.proofs.why_bad.Given as goal

abbrev pub invariant-loop-n : goal.invariant-loop-n
invariant-loop-n l = Sought l.input l.t l.line l._n
