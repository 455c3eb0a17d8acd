-- Laws.
-- A fact about each number of a range, shown by one test that is computed over the whole range.
use Rattle.std.specs.Prelude.{◌≡◌, Bool, true, false, ◌&&◌, ◌⊎◌, ℕ, zero, suc, ◌<◌, T}
use Rattle.std.proofs.Common.{inl, inr, not-suc-le-zero, le_of_suc-le-suc, eq-or-lt_of_le}

-- the test holds at each number below n
abbrev pub below : ℕ → (ℕ → Bool) → Bool
below zero test = true
below (suc n) test = test n && below n test

left : (a b : Bool) → T (a && b) → T a
left true b t = tt
left false b t = t

right : (a b : Bool) → T (a && b) → T b
right true b t = t
right false b t = absurd t

-- What is tested over the whole range holds at each number of it.
pub each : (n : ℕ) (test : ℕ → Bool) → T (below n test) → (k : ℕ) → k < n → T (test k)
each zero test t k h = absurd (not-suc-le-zero h)
each (suc n) test t k h = go (each n test (right (test n) (below n test) t) k) (eq-or-lt_of_le (le_of_suc-le-suc h))
  where
    go : (k < n → T (test k)) → (k ≡ n) ⊎ (k < n) → T (test k)
    go ih (inl e) = rw e (left (test n) (below n test) t)
    go ih (inr l) = ih l
