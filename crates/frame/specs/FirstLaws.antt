-- Laws.
-- What is known of a first place: that it is the first, that there is none, and what one place more gives.
use Rattle.std.specs.Prelude.{ℕ, zero, suc, ◌+◌, ◌-◌, ◌≤◌, ◌<◌, ◌≡◌, refl, Bool, true, false, cond, ◌⊎◌}
use Rattle.std.proofs.Common.{sym, ap, ◌∙◌, inl, inr, arith, add-zero, eq-or-lt_of_le}
use Rattle.frame.specs.Line.{Line, end_at, opening, Found, nowhere, at, first, first_in}
use Rattle.frame.specs.ReadStated.{IsFirst}

-- no place is both found and nowhere
pub lost : {A : Type 0} {f : Found} {k : ℕ} → f ≡ nowhere → f ≡ at k → A
lost p q = let z : ◌≡◌ {A = ℕ} 0 1 = cc in absurd (omega arith)

-- The place found is the first at which the test holds.
pub first_at_law : (test : ℕ → Bool) (i n k : ℕ) → first test i n ≡ at k → IsFirst test i n k
unfolding first
first_at_law test i zero k h = lost refl h
first_at_law test i (suc n) k h = go (test i) refl h (first_at_law test (i + 1) n k)
  where
    earlier : test i ≡ false → IsFirst test (i + 1) n k → (j : ℕ) → i ≤ j → j < k → test j ≡ false
    earlier e f j a b = by (eq-or-lt_of_le a)
      where
        by : (i ≡ j) ⊎ (i < j) → test j ≡ false
        by (inl g) = rw (sym g) e
        by (inr g) = f.none_earlier j (omega arith) b

    go : (b : Bool) → test i ≡ b → cond b (at i) (first test (i + 1) n) ≡ at k
        → (first test (i + 1) n ≡ at k → IsFirst test (i + 1) n k) → IsFirst test i (suc n) k
    go true e g ih =
        let same : i ≡ k = cc in
        record { from = omega arith; before = omega arith; holds = rw (sym same) e; none_earlier = λ j a b. absurd (omega arith) }
    go false e g ih =
        let f : IsFirst test (i + 1) n k = ih g in
        record { from = omega (arith, f.from); before = omega (arith, f.before); holds = f.holds; none_earlier = earlier e f }

-- The other way: a place that is the first is the one found.
pub at_first : (test : ℕ → Bool) (i n k : ℕ) → IsFirst test i n k → first test i n ≡ at k
unfolding first
at_first test i zero k f = absurd (omega (arith, f.from, f.before))
at_first test i (suc n) k f = go (eq-or-lt_of_le f.from) (at_first test (i + 1) n k)
  where
    later : i < k → IsFirst test (i + 1) n k
    later l =
        record { from = omega arith; before = omega (arith, f.before); holds = f.holds; none_earlier = λ j a b. f.none_earlier j (omega arith) b }

    go : (i ≡ k) ⊎ (i < k) → (IsFirst test (i + 1) n k → first test (i + 1) n ≡ at k) → cond (test i) (at i) (first test (i + 1) n) ≡ at k
    go (inl e) ih = rw (e, f.holds)
    go (inr l) ih = rw (f.none_earlier i (omega arith) l) (ih (later l))

-- Where none is found the test holds nowhere.
pub first_none : (test : ℕ → Bool) (i n : ℕ) → first test i n ≡ nowhere → (j : ℕ) → i ≤ j → j < i + n → test j ≡ false
unfolding first
first_none test i zero h j a b = absurd (omega arith)
first_none test i (suc n) h j a b = go (test i) refl h (λ g x. first_none test (i + 1) n g j x (omega arith)) (eq-or-lt_of_le a)
  where
    go : (b : Bool) → test i ≡ b → cond b (at i) (first test (i + 1) n) ≡ nowhere
        → (first test (i + 1) n ≡ nowhere → i + 1 ≤ j → test j ≡ false) → (i ≡ j) ⊎ (i < j) → test j ≡ false
    go true e g ih s = lost g refl
    go false e g ih (inl s) = rw (sym s) e
    go false e g ih (inr s) = ih g (omega arith)

-- what was found before, or the place k, one further, where the test holds there
abbrev pub or_at : Found → Bool → ℕ → Found
or_at nowhere b k = cond b (at k) nowhere
or_at (at e) b k = at e

first_more : (test : ℕ → Bool) (i n : ℕ) → first test i (suc n) ≡ or_at (first test i n) (test (i + n)) (i + n)
unfolding first
first_more test i zero = rw (add-zero i)
first_more test i (suc n) = go (test i) (first_more test (i + 1) n)
  where
    move : i + 1 + n ≡ i + suc n
    move = omega arith

    go : (b : Bool) → first test (i + 1) (suc n) ≡ or_at (first test (i + 1) n) (test (i + 1 + n)) (i + 1 + n)
        → cond b (at i) (first test (i + 1) (suc n)) ≡ or_at (cond b (at i) (first test (i + 1) n)) (test (i + suc n)) (i + suc n)
    go true ih = refl
    go false ih = ih ∙ rw move

-- One place more.
pub first_next : (test : ℕ → Bool) (i k : ℕ) → i ≤ k → first_in test i (k + 1) ≡ or_at (first_in test i k) (test k) k
first_next test i k h =
    let n : k + 1 - i ≡ suc (k - i) = omega arith in
    let m : i + (k - i) ≡ k = omega arith in
    ap (first test i) n ∙ first_more test i (k - i) ∙ ap (λ (x : ℕ). or_at (first test i (k - i)) (test x) x) m

-- No place at all.
pub first_empty : (test : ℕ → Bool) (i k : ℕ) → k ≤ i → first_in test i k ≡ nowhere
unfolding first
first_empty test i k h = let n : k - i ≡ 0 = omega arith in ap (first test i) n

-- One place: it is the first, or the first is looked for after it.
pub first_here : (test : ℕ → Bool) (i n : ℕ) (b : Bool) → i < n → test i ≡ b → first_in test i n ≡ cond b (at i) (first_in test (i + 1) n)
unfolding first
first_here test i n b h e = let m : n - i ≡ suc (n - (i + 1)) = omega arith in rw (m, e)

-- The opening is the first end at or after the position.
pub opening_is : (l : Line) (p : ℕ) → opening l p ≡ first_in (end_at l) p l.count
unfolding opening
opening_is l p = refl
