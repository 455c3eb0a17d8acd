use mathlib.Core.Path.{◌≡◌}
use lib.ListN.{drop}
use Rattle.checkbyte.specs.Register.{register_from}
use Rattle.checkbyte.proofs.register_from.Given as goal

abbrev pub invariant-loop-byte : goal.invariant-loop-byte
invariant-loop-byte l = register_from l.r (drop l.byte-index l.bytes) ≡ register_from l.start l.bytes
