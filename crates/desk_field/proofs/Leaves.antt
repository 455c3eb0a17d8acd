-- How the tests on texts and digits decide their definitions: a law for each way out of a function.
use Prim.Native.Nat.{ℕ, suc, ◌+◌, ◌-◌, ◌*◌, ◌≤◌, ◌<◌}
use mathlib.Core.Path.{◌≡◌, refl, sym, ap, ◌∙◌}
use mathlib.Core.Bool.{Bool, ◌&&◌, and-false}
use mathlib.Core.List.{List, [], ◌∷◌}
use mathlib.Core.Logic.{inl, inr}
use Rattle.std.specs.Char.{IsAsciiDigit, IsNotAsciiDigit}
use native.Mathlib.Numerals.{add-one}
use native.Mathlib.Omega.{arith}
use lib.Dec.{eqb, ltb}
use lib.ListN.{length, get_or, drop, drop_of_length-le}
use lib.Seq.{drop-cons}
use borrow.Author.Tests.{lt-ltb, le-ltb, le-leb, lt-leb, eq-eqb, ne_eqb}
use Rattle.std.specs.Prelude.{Option, Some, None}
use lib.Pointwise.{pointwise}
use Rattle.label.specs.Labels.{every}
use Rattle.desk_text.specs.Grammar.{same, digit, spells, past_u32, is_width}
use Rattle.desk_field.specs.Widths.{width_by, number_of, width_of}

-- ## The same text

-- the same text is the same length and the same bytes
pub same_is_pointwise : (a b : List ℕ) → pointwise eqb a b ≡ same a b
unfolding same
same_is_pointwise [] [] = refl
same_is_pointwise [] (y ∷ b) = refl
same_is_pointwise (x ∷ a) [] = refl
same_is_pointwise (x ∷ a) (y ∷ b) = ap (λ (t : Bool). eqb x y && t) (same_is_pointwise a b)

-- ## A number

-- the number that digits spell after those that spell n
unfoldable pub number_from : ℕ → List ℕ → Option ℕ
number_from n l = width_by (every digit l && ltb (spells n l) past_u32) (spells n l)

spells_grows : (n : ℕ) (l : List ℕ) → n ≤ spells n l
unfolding spells
spells_grows n [] = omega arith
spells_grows n (x ∷ xs) = omega (arith, spells_grows (n * 10 + (x - 48)) xs)

large : (n : ℕ) (l : List ℕ) → past_u32 ≤ n → number_from n l ≡ None
unfolding number_from
large n l h = rw (le-ltb (spells n l) past_u32 (omega (arith, spells_grows n l)), and-false)

one_more : (n x : ℕ) (l : List ℕ) → 48 ≤ x → x ≤ 57 → number_from n (x ∷ l) ≡ number_from (n * 10 + (x - 48)) l
unfolding number_from every digit spells
one_more n x l h k = rw (le-leb 48 x h, le-leb x 57 k)

one_low : (n x : ℕ) (l : List ℕ) → x < 48 → number_from n (x ∷ l) ≡ None
unfolding number_from every digit
one_low n x l h = rw (lt-leb 48 x h)

one_high : (n x : ℕ) (l : List ℕ) → 57 < x → number_from n (x ∷ l) ≡ None
unfolding number_from every digit
one_high n x l h = rw (le-leb 48 x (omega arith), lt-leb x 57 h)

none_left : (n : ℕ) → n < past_u32 → number_from n [] ≡ Some n
unfolding number_from every spells
none_left n h = rw (lt-ltb n past_u32 h)

pub number_start : (s : List ℕ) → number_from 0 s ≡ number_of s
unfolding number_from number_of
number_start s = refl

module _ (s : List ℕ) (n i : ℕ) (so_far : number_from n (drop i s) ≡ number_of s) where
  pub number_end : length s ≤ i → n < past_u32 → Some n ≡ number_of s
  number_end h k = rw (← so_far, drop_of_length-le s h, none_left n k)

  module _ (h : i < length s) where
    pub number_other : IsNotAsciiDigit (get_or s i 0) → None ≡ number_of s
    number_other (inl k) = rw (← so_far, drop-cons s i 0 h, one_low n (get_or s i 0) (drop (suc i) s) k)
    number_other (inr k) = rw (← so_far, drop-cons s i 0 h, one_high n (get_or s i 0) (drop (suc i) s) k)

    module _ (digits : IsAsciiDigit (get_or s i 0)) where
      on : number_from (n * 10 + (get_or s i 0 - 48)) (drop (suc i) s) ≡ number_of s
      on = rw (← so_far, drop-cons s i 0 h, one_more n (get_or s i 0) (drop (suc i) s) digits.0 digits.1)

      over : past_u32 ≤ n * 10 + (get_or s i 0 - 48) → None ≡ number_of s
      over k = sym (large (n * 10 + (get_or s i 0 - 48)) (drop (suc i) s) k) ∙ on

      pub number_times : {r : Option ℕ} → (n * 10 < past_u32 → ⊥) → r ≡ None → r ≡ number_of s
      number_times k e = e ∙ over (omega arith)

      module _ {d m : ℕ} (digit_is : d ≡ get_or s i 0 - 48) (tens : m ≡ n * 10) where
        pub number_plus : {r : Option ℕ} → (m + d < past_u32 → ⊥) → r ≡ None → r ≡ number_of s
        number_plus k e = e ∙ over (omega arith)

        pub number_on : {j : ℕ} → j ≡ m + d → number_from j (drop (i + 1) s) ≡ number_of s
        number_on e = rw (e, tens, digit_is, add-one) on

-- what the code of a number is proved by
pub ruleset number_laws = (number_start, number_other, number_times, number_plus, number_on, number_end)

-- ## A width

pub width_empty : (s : List ℕ) → length s < 1 → None ≡ width_of s
unfolding width_of is_width
width_empty [] h = refl
width_empty (x ∷ xs) h = absurd (omega arith)

pub width_zero : (s : List ℕ) → 2 ≤ length s → get_or s 0 0 ≡ 48 → None ≡ width_of s
unfolding width_of is_width
width_zero s h e = rw (le-leb 1 (length s) (omega arith), ne_eqb (length s) 1 (λ q. omega arith), eq-eqb (get_or s 0 0) 48 e)

pub width_one : {r : Option ℕ} (s : List ℕ) → 1 ≤ length s → length s < 2 → r ≡ number_of s → r ≡ width_of s
unfolding width_of is_width number_of
width_one [] h k e = absurd (omega arith)
width_one (x ∷ []) h k e = e
width_one (x ∷ y ∷ ys) h k e = absurd (omega arith)

pub width_more : {r : Option ℕ} (s : List ℕ) → 2 ≤ length s → (get_or s 0 0 ≡ 48 → ⊥) → r ≡ number_of s → r ≡ width_of s
unfolding width_of is_width number_of
width_more s h e p = rw (le-leb 1 (length s) (omega arith), ne_eqb (length s) 1 (λ q. omega arith), ne_eqb (get_or s 0 0) 48 e) p

-- what the code of a width is proved by
pub ruleset width_laws = (width_empty, width_zero, width_one, width_more)
