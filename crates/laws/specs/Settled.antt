-- Laws.
-- That no second answer meets a promise, where the promise is an equation: of an answer, `r ≡ f x` with `f` a definition,
-- or of lent memory as it is afterwards. One law serves them all.
use Rattle.std.specs.Prelude.{◌≡◌}
use Rattle.std.proofs.Common.{sym, ◌∙◌}

-- Two answers that both equal what the definition gives are the same answer.
pub settled : {A : Type 0} {given r s : A} → r ≡ given → s ≡ given → r ≡ s
settled p q = p ∙ sym q
