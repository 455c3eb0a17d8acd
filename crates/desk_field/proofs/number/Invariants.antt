use Rattle.std.proofs.Common.{◌≡◌, ◌<◌, drop}
use Rattle.desk_text.specs.Grammar.{past_u32}
use Rattle.desk_field.specs.Widths.{number_of}
use Rattle.desk_field.proofs.Leaves.{number_from}
use Rattle.desk_field.proofs.number.Given as goal

abbrev pub invariant-loop-x : goal.invariant-loop-x
invariant-loop-x l = (l.n < past_u32) × (number_from l.n (drop l.x-index l.s) ≡ number_of l.s)
