use Prim.Native.Nat.{◌+◌, ◌*◌}
use mathlib.Core.Path.{◌≡◌}
use Rattle.frame.specs.Line.{single, opening}
use Rattle.frame_read.proofs.opening.Given as goal

abbrev pub invariant-loop-pair : goal.invariant-loop-pair
invariant-loop-pair l = opening (single l.intervals) l.from ≡ opening (single l.intervals) (l.first + 2 * l.pair)
