-- `volts_trace::write_intervals` meets its contract. The loop's invariant is the record `Turn`. Assumes nothing.
use mathlib.Core.Path.{◌≡◌}
use mathlib.Core.Bool.{true, false, not, beq}
use lib.Ieee.{nan}
use lib.ListN.{get_or}
use Rattle.volts.specs.Judging.{judged}
use native.Mathlib.Omega.{arith}
use Rattle.volts.specs.Levels.{level_after}
use Rattle.volts_trace.proofs.Changing.{changed, unchanged, other_level, same_level}
use Rattle.volts_trace.proofs.Usable.{usable_at}
use Rattle.volts_trace.proofs.Turns.{turn_first, turn_same, turn_other, turn_count, turn_words}
use Rattle.volts_trace.proofs.write_intervals.Goals as goal
use Rattle.volts_trace.proofs.write_intervals.Goals.{then-turns, else-turns}

pub loop-sample-init : goal.loop-sample-init
loop-sample-init c = turn_first _ _ _

pub loop-sample-preserved : goal.loop-sample-preserved
loop-sample-preserved c =
    let turn = c.loop-sample.invariant in
    let active = c.loop-sample.active in
    let level = level_after active (judged c.args.gate (get_or c.args.samples.now c.loop-sample.sample-index nan)) in
    let usable = usable_at _ _ _ c.requires.samples_value c.loop-sample-test.true in
    elim c.if-turns.branch [
      | then-turns w ↦
          let turned : not (beq level active) ≡ true = cc in
          rw (w.words-is, w.next-is, w.width-is, w.active-is)
          (turn_other _ _ _ _ _ _ _ _ turn _ c.loop-sample-test.true (changed level active turned) (omega arith) (other_level active))
      | else-turns w ↦
          let stayed : not (beq level active) ≡ false = cc in
          rw (w.words-is, w.next-is, w.width-is, w.active-is)
          (turn_same _ _ _ _ _ _ _ _ turn _ c.loop-sample-test.true (unchanged level active stayed) (same_level active))
    ]

pub returns : goal.returns
returns c =
    let turn = c.loop-sample.invariant in
    let pre = c.requires in (
      turn_count _ _ _ _ _ _ _ _ turn c.loop-sample-test.false pre.samples_nonzero.0 pre.samples_nonzero.2,
      turn_words _ _ _ _ _ _ _ _ turn c.loop-sample-test.false pre.samples_nonzero.0 pre.samples_nonzero.2,
    )
