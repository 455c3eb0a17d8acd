-- Laws.
-- Lent memory that is written from some place on: `sets l i vs` is the list l with vs laid over it from place i.
use Rattle.std.specs.Prelude.{◌≡◌, List, [], ◌∷◌, ◌++◌, ℕ, suc, ◌+◌, ◌≤◌, length, drop, set}
use Rattle.std.proofs.Common.{ap, ◌∙◌, add-zero, zero-add, arith}
use Rattle.std.proofs.lemmas.List.Edits.{sets, sets-eq}

-- One run of stores and then another is one run of both.
pub sets_then : {A : Type 0} (l : List A) (i : ℕ) (s t : List A) → sets (sets l i s) (i + length s) t ≡ sets l i (s ++ t)
sets_then l i [] t = rw (add-zero i)
sets_then l i (a ∷ s) t =
    let e : i + suc (length s) ≡ suc i + length s = omega arith in
    ap (λ (k : ℕ). sets (sets (set l i a) (suc i) s) k t) e ∙ sets_then (set l i a) (suc i) s t

-- What is laid from the start stands first, and the rest is unchanged.
pub sets_first : {A : Type 0} (l vs : List A) → length vs ≤ length l → sets l 0 vs ≡ vs ++ drop (length vs) l
sets_first l vs h = sets-eq vs l 0 (omega arith) ∙ ap (λ (k : ℕ). vs ++ drop k l) (zero-add (length vs))
