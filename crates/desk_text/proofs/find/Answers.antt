-- `desk_text::find` meets its contract: the first place that passes is that of the first such byte, or there is none.
use Rattle.std.proofs.Common.{rules, tests}
use Rattle.desk_text.proofs.Seeking.{place_found}
use Rattle.desk_text.proofs.find.Goals as goal

pub returns : goal.returns
returns c = let at = place_found c.args.byte c.args.s.now _ _ c.position.result c.position.ensures.ran (search rules) (search (rules, tests)) in search rules
