-- Definitions.
-- What a test means: the test says true exactly when a proposition holds.
use Rattle.std.specs.Prelude.{ℕ, ◌≤◌, ◌<◌, ◌≡◌, refl, Bool, true, false, not, ◌&&◌, ◌||◌, ◌↔◌, ◌⊎◌, eqb, leb, ltb}
use Rattle.std.proofs.Common.{inl, inr, ⊎_elim, eqb-true, eq-eqb, leb-true, le-leb, ltb-true, lt-ltb}
use Rattle.std.proofs.lemmas.Bool.{not-true}
use Rattle.laws.specs.Tests.{never}

-- a test, and what it says where it says true
pub record Test : Type 1 where
  pub says : Bool
  pub Holds : Type 0
  pub means : (says ≡ true) ↔ Holds

-- the test t means that A holds
abbrev pub Means : Bool → Type 0 → Type 0
Means t A = (t ≡ true) ↔ A

-- what two tests together mean
pub and_means : (s t : Bool) {A B : Type 0} → Means s A → Means t B → Means (s && t) (A × B)
and_means true t m n = (λ e. (m.0 refl, n.0 e), λ h. n.1 h.1)
and_means false t m n = (λ e. never e refl, λ h. never (m.1 h.0) refl)

-- what one of two tests means
pub or_means : (s t : Bool) {A B : Type 0} → Means s A → Means t B → Means (s || t) (A ⊎ B)
or_means true t m n = (λ e. inl (m.0 refl), λ h. refl)
or_means false t m n = (λ e. inr (n.0 e), λ h. ⊎_elim (λ a. never (m.1 a) refl) n.1 h)

-- what a test that fails means
pub not_means : (t : Bool) {A : Type 0} → Means t A → Means (not t) (¬ A)
not_means true m = (λ e. never e refl, λ h. absurd (h (m.0 refl)))
not_means false m = (λ e a. never (m.1 a) refl, λ h. refl)

-- Tests put together mean what the words say.
abbrev pub both : Test → Test → Test
both a b = record { says = a.says && b.says; Holds = a.Holds × b.Holds; means = and_means a.says b.says a.means b.means }

-- one of the two, or both
abbrev pub either : Test → Test → Test
either a b = record { says = a.says || b.says; Holds = a.Holds ⊎ b.Holds; means = or_means a.says b.says a.means b.means }

-- not so
abbrev pub is_not : Test → Test
is_not a = record { says = not a.says; Holds = ¬ a.Holds; means = not_means a.says a.means }

-- a flag that is set
abbrev pub set : Bool → Test
set t = record { says = t; Holds = t ≡ true; means = (λ e. e, λ e. e) }

-- a flag that is not set
abbrev pub unset : Bool → Test
unset t = record { says = not t; Holds = t ≡ false; means = (not-true t, λ e. rw e) }

-- two numbers are equal
abbrev pub equals : ℕ → ℕ → Test
equals a b = record { says = eqb a b; Holds = a ≡ b; means = (eqb-true a b, eq-eqb a b) }

-- one number is less than another
abbrev pub below : ℕ → ℕ → Test
below a b = record { says = ltb a b; Holds = a < b; means = (ltb-true a b, lt-ltb a b) }

-- one number is at most another
abbrev pub at_most : ℕ → ℕ → Test
at_most a b = record { says = leb a b; Holds = a ≤ b; means = (leb-true a b, le-leb a b) }

-- A flag that is not set is unset ..
pub not_set : (t : Bool) → ¬ (t ≡ true) → t ≡ false
not_set true n = absurd (n refl)
not_set false n = refl

-- .. and one that is not unset is set.
pub not_unset : (t : Bool) → ¬ (t ≡ false) → t ≡ true
not_unset true n = refl
not_unset false n = absurd (n refl)
