-- Laws.
-- The whole text: what a good and a bad input come to, and how much there is of it.
use Rattle.std.specs.Prelude.{ℕ, ◌+◌, ◌≤◌, ◌≡◌, refl, Bool, true, false, cond, List, [], ◌∷◌, eqb, leb, length}
use Rattle.std.proofs.Common.{arith, length-append, eqb-true, leb-true, ne_eqb}
use Rattle.laws.specs.Tests.{both}
use Rattle.desk_text.specs.Grammar.{spelt}
use Rattle.desk_text.specs.Input.{Line, lines, field, own_line, iv_line, iv_at, most_widths, bad_from, widths_from, first_bad, first_line, later_lines, customer_of, vehicle_of, recording_of}
use Rattle.desk_text.specs.Numerals.{decimal}
use Rattle.desk_text.specs.Report.{refusal, report, desk_of}
use Rattle.desk_text.specs.Promise.{most_text}
use Rattle.desk_text.specs.GoodLines.{own_is, label_size}
use Rattle.desk_text.specs.Stated.{OwnIs}
use Rattle.desk_text.specs.NumeralLaws.{five_digits}
use Rattle.desk_text.specs.Bounds.{report_size}

-- ## Good and bad

-- A good input's first line is good.
pub good_own : (ls : List Line) → first_bad ls ≡ 0 → OwnIs (first_line ls)
good_own [] e = absurd (omega arith)
good_own (l ∷ ls) e = own_is l (go (own_line l) refl e)
  where
    go : (b : Bool) → own_line l ≡ b → cond b (bad_from 2 ls) 1 ≡ 0 → own_line l ≡ true
    go true p q = p
    go false p q = absurd (omega arith)

-- The text of a good input is its report ..
pub desk_good : (s : List ℕ) → first_bad (lines s) ≡ 0 → desk_of s ≡ report (customer_of (lines s)) (vehicle_of (lines s)) (recording_of (lines s))
unfolding desk_of
desk_good s e = rw e

-- .. and that of a bad one the refusal with its first bad line's number.
pub desk_bad : (s : List ℕ) → ¬ (first_bad (lines s) ≡ 0) → desk_of s ≡ refusal (first_bad (lines s))
unfolding desk_of
desk_bad s n = rw (ne_eqb (first_bad (lines s)) 0 n)

-- ## How much

-- a line that is good as line n has a number up to 16,385
number_few : (n : ℕ) (l : Line) → iv_at n l ≡ true → n ≤ 1 + most_widths
unfolding iv_at
number_few n l e = leb-true n (1 + most_widths) (both (leb n (1 + most_widths)) (iv_line l) e).0

bad_few : (n : ℕ) (ls : List Line) → n ≤ 2 + most_widths → bad_from n ls ≤ 2 + most_widths
unfolding bad_from
bad_few n [] h = omega arith
bad_few n (l ∷ ls) h = go (iv_at n l) refl (bad_few (n + 1) ls)
  where
    go : (b : Bool) → iv_at n l ≡ b → (n + 1 ≤ 2 + most_widths → bad_from (n + 1) ls ≤ 2 + most_widths) → cond b (bad_from (n + 1) ls) n ≤ 2 + most_widths
    go true e ih = ih (omega (arith, number_few n l e))
    go false e ih = h

-- The first bad line's number is at most 16,386.
pub first_few : (ls : List Line) → first_bad ls ≤ 2 + most_widths
first_few [] = omega arith
first_few (l ∷ ls) = go (own_line l) (bad_few 2 ls (omega arith))
  where
    go : (b : Bool) → bad_from 2 ls ≤ 2 + most_widths → cond b (bad_from 2 ls) 1 ≤ 2 + most_widths
    go true h = h
    go false h = omega arith

widths_few : (n : ℕ) (ls : List Line) → n ≤ 2 + most_widths → n + length (widths_from n ls) ≤ 2 + most_widths
unfolding widths_from
widths_few n [] h = omega arith
widths_few n (l ∷ ls) h = go (iv_at n l) refl (widths_few (n + 1) ls)
  where
    go : (b : Bool) → iv_at n l ≡ b → (n + 1 ≤ 2 + most_widths → n + 1 + length (widths_from (n + 1) ls) ≤ 2 + most_widths)
        → n + length (cond b (spelt (field 1 l) ∷ widths_from (n + 1) ls) []) ≤ 2 + most_widths
    go true e ih = omega (arith, ih (omega (arith, number_few n l e)))
    go false e ih = omega arith

-- No input records more than 16,384 intervals.
pub recording_few : (ls : List Line) → length (recording_of ls) ≤ most_widths
recording_few ls = go (own_line (first_line ls)) ls
  where
    go : (b : Bool) (ls : List Line) → length (cond b (widths_from 2 (later_lines ls)) []) ≤ most_widths
    go true ls = omega (arith, widths_few 2 (later_lines ls) (omega arith))
    go false ls = omega arith

-- 442,463 bytes are enough for every text.
pub desk_size : (s : List ℕ) → length (desk_of s) ≤ most_text
unfolding desk_of
desk_size s = go (eqb (first_bad (lines s)) 0) refl
  where
    go : (b : Bool) → eqb (first_bad (lines s)) 0 ≡ b
        → length (cond b (report (customer_of (lines s)) (vehicle_of (lines s)) (recording_of (lines s))) (refusal (first_bad (lines s)))) ≤ most_text
    go true e =
        let o = good_own (lines s) (eqb-true (first_bad (lines s)) 0 e) in
        report_size (customer_of (lines s)) (vehicle_of (lines s)) (label_size (customer_of (lines s)) o.customer).1 (label_size (vehicle_of (lines s)) o.vehicle).1
        (recording_of (lines s)) (recording_few (lines s))
    go false e = omega (arith, length-append (decimal (first_bad (lines s))) (10 ∷ []), five_digits (first_bad (lines s)) (omega (arith, first_few (lines s))))
