-- Definitions.
-- Reading on, from a state to the state after it: the answers that come so, and that they end.
use Rattle.std.specs.Prelude.{ℕ, zero, suc, ◌+◌, ◌≤◌, ◌<◌, ◌≡◌, refl, Bool, true, false, cond, List, [], ◌∷◌, ◌++◌, length}
use Rattle.std.proofs.Common.{sym, ap, subst, append_assoc, arith}
use Rattle.laws.specs.Tests.{never}
use Rattle.frame.specs.Reading.{Outcome}
use Rattle.frame.specs.ReadPromise.{tells}
use Rattle.frame.specs.ReadStated.{goes_on}

-- the next position of an answer
abbrev pub next_of : Outcome → ℕ
next_of x = (tells x).next

-- How one reads on: from a state the answer there, the state after it, and how much is left to read.
pub record Onward (S : Type 0) : Type 0 where
  pub answer : S → Outcome
  pub after : S → S
  pub left : S → ℕ
  pub less : (s : S) → goes_on (answer s) ≡ true → left (after s) < left s

-- The answers from a state on, each from the state after the one before, up to one that is no frame and no fault.
pub data ReadsFrom {S : Type 0} (w : Onward S) : S → List Outcome → Type 0 where
  last : {s : S} → goes_on (w.answer s) ≡ false → ReadsFrom w s (w.answer s ∷ [])
  more : {s : S} {xs : List Outcome} → goes_on (w.answer s) ≡ true → ReadsFrom w (w.after s) xs → ReadsFrom w s (w.answer s ∷ xs)

-- the same list computed, with a bound on its length
unfoldable pub answers_by : {S : Type 0} → ℕ → Onward S → S → List Outcome
answers_by zero w s = []
answers_by (suc n) w s = let rest = answers_by n w (w.after s) in w.answer s ∷ cond (goes_on (w.answer s)) rest []

-- Frames and faults from a state on, as far as they are told, and the state after them.
pub data Reaches {S : Type 0} (w : Onward S) (from : S) : S → List Outcome → Type 0 where
  none_yet : Reaches w from from []
  one_more : {s : S} {xs : List Outcome} → Reaches w from s xs → goes_on (w.answer s) ≡ true
      → Reaches w from (w.after s) (xs ++ (w.answer s ∷ []))

-- Nobody reads on for ever: one answer more is enough than is left to read.
pub reads_by : {S : Type 0} (n : ℕ) (w : Onward S) (s : S) → w.left s < n → ReadsFrom w s (answers_by n w s)
unfolding answers_by
reads_by zero w s h = absurd (omega arith)
reads_by {S} (suc n) w s h = go (goes_on (w.answer s)) refl (reads_by n w (w.after s))
  where
    go : (b : Bool) → goes_on (w.answer s) ≡ b → (w.left (w.after s) < n → ReadsFrom w (w.after s) (answers_by n w (w.after s)))
        → ReadsFrom w s (w.answer s ∷ cond b (answers_by n w (w.after s)) [])
    go true e ih = more e (ih (omega (arith, w.less s e)))
    go false e ih = last e

-- From a state there is one list of answers, however one comes by it.
pub reads_once : {S : Type 0} {w : Onward S} {s : S} {xs ys : List Outcome} → ReadsFrom w s xs → ReadsFrom w s ys → xs ≡ ys
reads_once (last e) (last f) = refl
reads_once (last e) (more f r) = never f e
reads_once (more e r) (last f) = never e f
reads_once {w = w} (more {s} e r) (more f t) = ap (λ (x : List Outcome). w.answer s ∷ x) (reads_once r t)

-- There are at most as many answers as are left to read, and one.
pub few_answers : {S : Type 0} {w : Onward S} {s : S} {xs : List Outcome} → ReadsFrom w s xs → length xs ≤ w.left s + 1
few_answers (last e) = omega arith
few_answers {w = w} (more {s} e r) = omega (arith, few_answers r, w.less s e)

-- The frames and faults told so far, and what is read on from there, are what is read from the start.
pub reads_through : {S : Type 0} {w : Onward S} {from s : S} {xs ys : List Outcome} → Reaches w from s xs → ReadsFrom w s ys → ReadsFrom w from (xs ++ ys)
reads_through none_yet r = r
reads_through {w = w} {from = from} {ys = ys} (one_more {s} {xs} q g) r =
    subst (ReadsFrom w from) (sym (append_assoc xs (w.answer s ∷ []) ys)) (reads_through q (more g r))
