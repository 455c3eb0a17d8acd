-- The line of that number is found by leaving out those before it: a law for each way out of the loop, and for the way on.
use Prim.Native.Nat.{ℕ, zero, suc, ◌+◌, ◌-◌, ◌≤◌, ◌<◌}
use mathlib.Core.Path.{◌≡◌, refl, sym, ap, ◌∙◌}
use mathlib.Core.Bool.{Bool, true, false}
use mathlib.Core.List.{List, [], ◌∷◌}
use mathlib.Core.Logic.{◌⊎◌, inl, inr}
use native.Mathlib.Omega.{arith}
use lib.ListN.{length, take, drop, get_or, length-drop}
use borrow.Author.Tests.{ne_eqb}
use Rattle.desk_text.specs.Places.{index_of}
use Rattle.desk_text.specs.Input.{shut, unshut, lines}
use Rattle.desk_text.specs.FoundLines.{rest_all, open_line, closed_line}
use Rattle.desk_reason.specs.declared.Reason.{Reason}
use Rattle.desk_reason.specs.declared.Reason.TheVariants.{Missing}
use Rattle.desk_reason.specs.Reasons.{ends_in_return, closed_reason, open_reason, reason_of, line_at, first_of, reason_at}

-- ## The first line of a text

-- a line without a byte does not end in a carriage return
pub no_return : (l : List ℕ) → length l < 1 → false ≡ ends_in_return l
unfolding ends_in_return
no_return [] h = refl
no_return (x ∷ xs) h = absurd (omega arith)

-- any other does where its last byte is one
pub return_last : (l : List ℕ) → get_or l (length l - 1) 0 ≡ 13 → true ≡ ends_in_return l
unfolding ends_in_return
return_last l e = rw e

pub other_last : (l : List ℕ) → (get_or l (length l - 1) 0 ≡ 13 → ⊥) → false ≡ ends_in_return l
unfolding ends_in_return
other_last l n = rw (ne_eqb (get_or l (length l - 1) 0) 13 n)

pub ruleset return_laws = (no_return, return_last, other_last)

-- where no newline stands, the lines of a text are at most one
open_lines : (t : List ℕ) → index_of 10 t ≡ length t → ((lines t ≡ []) × (t ≡ [])) ⊎ (lines t ≡ unshut t ∷ [])
unfolding lines
open_lines [] q = inl (refl, refl)
open_lines (x ∷ xs) q = inr (open_line (x ∷ xs) (omega arith) q)

module _ (t : List ℕ) (n : ℕ) where
  pub first_open : {r : Reason} → index_of 10 t ≡ length t → r ≡ open_reason (length t) → r ≡ reason_of n (first_of t)
  first_open q a = a ∙ go (open_lines t q)
    where
      go : ((lines t ≡ []) × (t ≡ [])) ⊎ (lines t ≡ unshut t ∷ []) → open_reason (length t) ≡ reason_of n (first_of t)
      go (inl z) = rw (z.0, z.1)
      go (inr z) = rw z

  pub first_closed : {e : ℕ} {b : Bool} {r : Reason} → e ≡ index_of 10 t → e < length t → b ≡ ends_in_return (take e t) → r ≡ closed_reason b n
      → r ≡ reason_of n (first_of t)
  first_closed {e} at inside a c = c ∙ rw (a, closed_line t at inside)

pub ruleset first_laws = (first_open, first_closed)

-- ## The lines before

-- the lines before line n are passed, and the line that is sought is among those of t
pub record Sought (s t : List ℕ) (line n : ℕ) : Type 0 where
  pub same : get_or (lines t) (line - n) (unshut []) ≡ line_at line (lines s)
  pub short : length t ≤ length s

pub sought_start : (s : List ℕ) (line : ℕ) → Sought s s line 1
sought_start s line = record { same = refl; short = omega arith }

module _ {s t : List ℕ} {line n : ℕ} (sought : Sought s t line n) where
  pub sought_first : {r : Reason} → line ≤ n → r ≡ reason_of line (first_of t) → r ≡ reason_at line (lines s)
  sought_first h a =
      let z : line - n ≡ 0 = omega arith in
      a ∙ ap (reason_of line) (ap (λ (k : ℕ). get_or (lines t) k (unshut [])) (sym z) ∙ sought.same)

  module _ (more : n < line) where
    pub sought_missing : index_of 10 t ≡ length t → Missing ≡ reason_at line (lines s)
    unfolding open_reason
    sought_missing q = ap (reason_of line) (sym (go (line - n) (omega arith) (open_lines t q)) ∙ sought.same)
      where
        go : (k : ℕ) → 0 < k → ((lines t ≡ []) × (t ≡ [])) ⊎ (lines t ≡ unshut t ∷ []) → get_or (lines t) k (unshut []) ≡ unshut []
        go zero h z = absurd (omega arith)
        go (suc k) h (inl z) = rw z.0
        go (suc k) h (inr z) = rw z

    pub sought_next : {e : ℕ} → e ≡ index_of 10 t → e < length t → Sought s (take (length t - (e + 1)) (drop (e + 1) t)) line (n + 1)
    sought_next {e} at inside = rw (rest_all t (e + 1)) (record { same = on (line - n) (line - (n + 1)) (omega arith) (closed_line t at inside) ∙ sought.same; short = omega (arith, length-drop (e + 1) t, sought.short) })
      where
        on : (k j : ℕ) → k ≡ suc j → lines t ≡ shut (take e t) ∷ lines (drop (e + 1) t) → get_or (lines (drop (e + 1) t)) j (unshut []) ≡ get_or (lines t) k (unshut [])
        on k j h z = rw (h, z)

pub ruleset sought_laws = (sought_start, sought_first, sought_missing, sought_next)
