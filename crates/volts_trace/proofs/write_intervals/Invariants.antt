use Rattle.volts_trace.proofs.Turns.{Turn}
use Rattle.volts_trace.proofs.write_intervals.Given as goal

abbrev pub invariant-loop-sample : goal.invariant-loop-sample
invariant-loop-sample l = Turn l.gate l.samples l.initial.words l.words l.next.0 l.width.0 l.active l.sample-index
