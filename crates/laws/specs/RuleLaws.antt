-- Laws.
-- The one law of the first rule that holds. Every "exactly when" of a refusal is an instance of it.
--     first-is        the number is n exactly when rule n holds and no rule before it does
--     none_is         it is 0 exactly when no rule holds
--     first_then      the rules of one list and then those of another
--     first-same      two lists whose tests agree
--     refuses         a call that answers it is turned away under n exactly then
use Rattle.std.specs.Prelude.{ℕ, ◌<◌, ◌≡◌, refl, Bool, true, false, cond, not, List, [], ◌∷◌, ◌++◌, ◌↔◌, eqb}
use Rattle.std.proofs.Common.{sym, ◌∙◌, arith, eqb-true, ne_eqb}
use Rattle.std.proofs.lemmas.Bool.{eqb-false, not-true}
use Rattle.laws.specs.Tests.{never, both}
use Rattle.laws.specs.Rules.{Rule, first_rule, FirstToHold, NoneHolds, TurnedAway}
use Rattle.laws.specs.Rules.{without, apart}

absent : (n : ℕ) (rs : List Rule) → 0 < n → without n rs ≡ true → ¬ (first_rule rs ≡ n)
absent n [] h w e = omega arith
absent n (r ∷ rs) h w e =
    let parts = both (not (eqb n r.number)) (without n rs) w in
    go r.when.says (not-true (eqb n r.number) parts.0) (absent n rs h parts.1) e
  where
    go : (t : Bool) → eqb n r.number ≡ false → ¬ (first_rule rs ≡ n) → ¬ (cond t r.number (first_rule rs) ≡ n)
    go true d ih e = eqb-false n r.number d (sym e)
    go false d ih e = ih e

-- The number is n exactly when rule n holds and no rule that is judged before it does.
pub first_is : (n : ℕ) (rs : List Rule) → 0 < n → apart rs ≡ true → (first_rule rs ≡ n) ↔ FirstToHold n rs
first_is n [] h a = (λ e. omega arith, λ f. absurd f)
first_is n (r ∷ rs) h a = go (eqb n r.number) r.when.says refl refl (first_is n rs h parts.1)
  where
    parts : (without r.number rs ≡ true) × (apart rs ≡ true)
    parts = both (without r.number rs) (apart rs) a

    go : (b t : Bool) → eqb n r.number ≡ b → r.when.says ≡ t → (first_rule rs ≡ n) ↔ FirstToHold n rs
        → (cond t r.number (first_rule rs) ≡ n) ↔ cond b r.when.Holds ((¬ r.when.Holds) × FirstToHold n rs)
    go true true e s ih = (λ f. r.when.means.0 s, λ f. sym (eqb-true n r.number e))
    go true false e s ih =
        (λ f. absurd (absent n rs h (rw (eqb-true n r.number e) parts.0) f), λ f. never (r.when.means.1 f) s)
    go false true e s ih = (λ f. absurd (eqb-false n r.number e (sym f)), λ f. absurd (f.0 (r.when.means.0 s)))
    go false false e s ih = (λ f. (λ x. never (r.when.means.1 x) s, ih.0 f), λ f. ih.1 f.1)

-- The number is 0 exactly when no rule holds.
pub none_is : (rs : List Rule) → without 0 rs ≡ true → (first_rule rs ≡ 0) ↔ NoneHolds rs
none_is [] w = (λ e. tt, λ h. refl)
none_is (r ∷ rs) w =
    let parts = both (not (eqb 0 r.number)) (without 0 rs) w in
    go r.when.says refl (not-true (eqb 0 r.number) parts.0) (none_is rs parts.1)
  where
    go : (t : Bool) → r.when.says ≡ t → eqb 0 r.number ≡ false → (first_rule rs ≡ 0) ↔ NoneHolds rs
        → (cond t r.number (first_rule rs) ≡ 0) ↔ ((¬ r.when.Holds) × NoneHolds rs)
    go true s d ih = (λ e. absurd (eqb-false 0 r.number d (sym e)), λ h. absurd (h.0 (r.when.means.0 s)))
    go false s d ih = (λ e. (λ x. never (r.when.means.1 x) s, ih.0 e), λ h. ih.1 h.1)

-- the first number, or where it is 0 the later one
abbrev pub and_then : ℕ → ℕ → ℕ
and_then first later = cond (eqb first 0) later first

-- Of two lists, one judged after the other, the second decides where no rule of the first holds.
pub first_then : (rs later : List Rule) → without 0 rs ≡ true → first_rule (rs ++ later) ≡ and_then (first_rule rs) (first_rule later)
first_then [] later w = refl
first_then (r ∷ rs) later w =
    let parts = both (not (eqb 0 r.number)) (without 0 rs) w in
    go r.when.says (not-true (eqb 0 r.number) parts.0) (first_then rs later parts.1)
  where
    go : (t : Bool) → eqb 0 r.number ≡ false → first_rule (rs ++ later) ≡ and_then (first_rule rs) (first_rule later)
        → cond t r.number (first_rule (rs ++ later)) ≡ and_then (cond t r.number (first_rule rs)) (first_rule later)
    go true d ih = rw (ne_eqb r.number 0 (λ e. eqb-false 0 r.number d (sym e)))
    go false d ih = ih

-- Two lists of the same numbers, whose tests agree as long as none before them holds.
abbrev pub Agree : List Rule → List Rule → Type 0
Agree [] [] = Unit {0}
Agree [] (q ∷ qs) = ⊥
Agree (r ∷ rs) [] = ⊥
Agree (r ∷ rs) (q ∷ qs) = (r.number ≡ q.number) × (r.when.says ≡ q.when.says) × (r.when.says ≡ false → Agree rs qs)

-- Such lists have the same number.
pub first_same : (rs qs : List Rule) → Agree rs qs → first_rule rs ≡ first_rule qs
first_same [] [] a = refl
first_same [] (q ∷ qs) a = absurd a
first_same (r ∷ rs) [] a = absurd a
first_same (r ∷ rs) (q ∷ qs) a = rw (← a.0, ← a.1) (go r.when.says (λ e. first_same rs qs (a.2 e)))
  where
    go : (t : Bool) → (t ≡ false → first_rule rs ≡ first_rule qs) → cond t r.number (first_rule rs) ≡ cond t r.number (first_rule qs)
    go true h = refl
    go false h = h refl

-- A call that answers the number of the first of its rules that holds, and leaves everything as it was where that is n, is
-- turned away under n exactly when rule n is the first to hold.
pub refuses : (n : ℕ) (rs : List Rule) → 0 < n → apart rs ≡ true → {answered : ℕ} {AsItWas : Type 0}
    → answered ≡ first_rule rs → (answered ≡ n → AsItWas) → TurnedAway answered n (FirstToHold n rs) AsItWas
refuses n rs h a e same =
    let law = first_is n rs h a in
    record { exactly = (λ q. law.0 (sym e ∙ q), λ f. e ∙ law.1 f); unchanged = λ f. same (e ∙ law.1 f) }
