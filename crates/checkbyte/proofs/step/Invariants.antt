use Prim.Native.Nat.{◌-◌}
use mathlib.Core.Path.{◌≡◌}
use Rattle.checkbyte.specs.Register.{step_of}
use Rattle.checkbyte.proofs.Shifts.{shifts}
use Rattle.checkbyte.proofs.step.Given as goal

abbrev pub invariant-loop : goal.invariant-loop
invariant-loop l = shifts (8 - l.counter) l.r ≡ step_of l.register l.byte
