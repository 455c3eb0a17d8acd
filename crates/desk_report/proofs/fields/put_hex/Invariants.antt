use lib.ListN.{drop}
use Rattle.desk_text.specs.Numerals.{hex}
use Rattle.desk_report.proofs.Laying.{Left}
use Rattle.desk_report.proofs.fields.put_hex.Given as goal

-- the digits of the bytes so far are laid
abbrev pub invariant-loop-b : goal.invariant-loop-b
invariant-loop-b l = Left (hex (drop l.b-index l.s)) (hex l.s) l.initial.lent l.lent l.k
