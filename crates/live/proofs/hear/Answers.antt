-- `live::hear` meets its contract: a refusal, or the interval that is taken.
use mathlib.Core.Path.{sym, ◌∙◌}
use Rattle.std.proofs.lemmas.Result.{MatchResult-at_ok, MatchResult-at_err}
use Rattle.live.proofs.Refusing.{hear_by}
use Rattle.live.proofs.hear.Goals as goal

pub returns-in-Err : goal.returns-in-Err
returns-in-Err c =
    let so = MatchResult-at_err _ _ c.in-Err.why (sym c.in-Err.ensures) (hear_by c.args.live c.args.width.0 c.args.lent.now) in
    record { value = sym so.0; lent_after = sym so.1 }

pub returns : goal.returns
returns c =
    let so = MatchResult-at_ok _ _ c.in_default.field-0 (sym c.in_default.ensures) (hear_by c.args.live c.args.width.0 c.args.lent.now) in
    record { value = c.taken.ensures.value ∙ sym so.0; lent_after = c.taken.ensures.lent_after ∙ sym so.1 }
