-- `live_lent::hear` meets its contract: a refusal, or what the live reader by value answers.
use mathlib.Core.Path.{sym, ap, ◌∙◌}
use Rattle.std.proofs.lemmas.Result.{err_from_is_err_and, MatchResult-at_ok, MatchResult-at_err}
use Rattle.live_answer.specs.declared.Fed.{Fed}
use Rattle.live.proofs.Refusing.{hear_by}
use Rattle.live_lent.proofs.hear.Goals as goal

-- A refusal is the answer, and the reader and the lent bytes are as they were.
pub returns-in_err-refusal : goal.returns-in_err-refusal
returns-in_err-refusal c =
    let so = MatchResult-at_err _ _ c.in_err-refusal.field-0.0 (sym c.in_err-refusal.ensures) (hear_by c.args.live.now c.args.width.0 c.args.lent.now) in
    let p = err_from_is_err_and c.from_residual.result c.from_residual.ensures.1 in
    rw (p.1, p.2) (sym (ap (λ (f : Fed). f.heard) so.0), sym (ap (λ (f : Fed). f.live) so.0), sym so.1)

-- Otherwise the interval is taken.
pub returns : goal.returns
returns c =
    let so = MatchResult-at_ok _ _ c.in_ok-refusal.field-0 (sym c.in_ok-refusal.ensures) (hear_by c.args.live.now c.args.width.0 c.args.lent.now) in
    let fed = c.taken-fed.ensures.value ∙ sym so.0 in
    (ap (λ (f : Fed). f.heard) fed, ap (λ (f : Fed). f.live) fed, c.taken-fed.ensures.lent_after ∙ sym so.1)
