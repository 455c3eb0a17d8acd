-- `frame_read::opening` meets its contract. The loop goes over the even places, and the opening from the one it stands at on is the one
-- asked for.
use mathlib.Core.Path.{sym, ap, ◌∙◌}
use native.Mathlib.Omega.{arith}
use Rattle.frame.specs.Line.{single, opening}
use Rattle.frame_read.specs.Answering.{found_by}
use Rattle.frame_read.proofs.Searching.{open_none, open_even, open_here}
use Rattle.frame_read.proofs.opening.Goals as goal

pub loop-pair-init : goal.loop-pair-init
loop-pair-init c = open_even c.args.intervals.now _ ∙ ap (opening (single c.args.intervals.now)) (omega arith)

pub returns-then-is_end : goal.returns-then-is_end
returns-then-is_end c = ap found_by (sym (c.loop-pair.invariant ∙ open_here c.args.intervals.now _ _ (omega arith) (omega arith) c.is_end.ensures _ c.if-is_end.true))

pub loop-pair-preserved : goal.loop-pair-preserved
loop-pair-preserved c =
    c.loop-pair.invariant
    ∙ open_here c.args.intervals.now _ _ (omega arith) (omega arith) c.is_end.ensures _ c.if-is_end.false
    ∙ ap (opening (single c.args.intervals.now)) (omega arith)

pub returns : goal.returns
returns c = ap found_by (sym (c.loop-pair.invariant ∙ open_none c.args.intervals.now _ (omega arith)))
