use Rattle.desk_report.proofs.Driving.{LeftOn, ahead}
use Rattle.desk_report.proofs.lines.put_lines.Given as goal

abbrev pub invariant-loop-next : goal.invariant-loop-next
invariant-loop-next l = LeftOn l.recording.customer.now l.recording.vehicle.now l.recording.widths.now l.initial.lent l.lent l.k l.next

abbrev pub decreases-loop-next : goal.decreases-loop-next
decreases-loop-next l = ahead l.recording.customer.now l.recording.vehicle.now l.recording.widths.now l.next
