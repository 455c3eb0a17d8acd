-- Laws.
-- Tests that answer true or false, and what is known once one has answered.
use Rattle.std.specs.Prelude.{◌≡◌, refl, Bool, true, false, ◌&&◌, ◌||◌, ◌⊎◌, ℕ, ◌≤◌, ◌<◌, leb, ltb}
use Rattle.std.proofs.Common.{sym, inl, inr, ⊎_elim, arith, leb-true, leb-false, ltb-true, ltb-false, lt-ltb, le-ltb}

-- no test is both true and false
pub never : {A : Type 0} {b : Bool} → b ≡ true → b ≡ false → A
never p q = let z : ◌≡◌ {A = ℕ} 0 1 = cc in absurd (omega arith)

-- where both of two tests hold, each does
pub both : (a b : Bool) → (a && b) ≡ true → (a ≡ true) × (b ≡ true)
both true b e = (refl, e)
both false b e = never e refl

-- a number is at most n, or above it
pub up_to : (w n : ℕ) → (w ≤ n) ⊎ (n < w)
up_to w n = go (leb w n) refl
  where
    go : (b : Bool) → leb w n ≡ b → (w ≤ n) ⊎ (n < w)
    go true e = inl (leb-true w n e)
    go false e = inr (leb-false w n e)

-- what is not below a number is at least it ..
pub not_below : (a b : ℕ) → ¬ (a < b) → b ≤ a
not_below a b h = ⊎_elim (λ k. k) (λ k. absurd (h k)) (up_to b a)

-- .. and what is not at most it is above it
pub not_at_most : (a b : ℕ) → ¬ (a ≤ b) → b < a
not_at_most a b h = ⊎_elim (λ k. absurd (h k)) (λ k. k) (up_to a b)

-- one of two tests holds where the second does
pub or_right : (a b : Bool) → b ≡ true → (a || b) ≡ true
or_right true b e = refl
or_right false b e = e

-- two comparisons that hold in the same cases are the same test
pub ltb_same : (a b c d : ℕ) → (a < b → c < d) → (c < d → a < b) → ltb a b ≡ ltb c d
ltb_same a b c d f g = go (ltb a b) refl
  where
    go : (t : Bool) → ltb a b ≡ t → t ≡ ltb c d
    go true e = sym (lt-ltb c d (f (ltb-true a b e)))
    go false e = sym (le-ltb c d (other (ltb-false a b e)))
      where
        other : b ≤ a → d ≤ c
        other h = ⊎_elim (λ k. k) (λ k. absurd (omega (arith, g k))) (up_to d c)

-- where neither of two tests holds, each fails
pub neither : (a b : Bool) → (a || b) ≡ false → (a ≡ false) × (b ≡ false)
neither true b e = never refl e
neither false b e = (refl, e)
