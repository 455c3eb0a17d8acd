-- Laws.
-- A fixed amount of input decides. A good input has at most 229,414 bytes, and whatever follows the first 229,415 bytes of an
-- input changes nothing: the line that is bad is bad whatever it goes on with.
use Rattle.std.specs.Prelude.{ℕ, zero, suc, ◌+◌, ◌*◌, ◌≤◌, ◌<◌, ◌≡◌, refl, Bool, true, false, ◌&&◌, List, [], ◌∷◌, ◌++◌, ◌⊎◌, eqb, leb, length, take, drop}
use Rattle.std.proofs.Common.{sym, ◌∙◌, inl, inr, arith, length-append, length-drop, length-take-le, ne_eqb}
use Rattle.std.proofs.lemmas.List.{take-append-le, drop-append-le}
use Rattle.std.proofs.lemmas.Bool.{lt-leb}
use Rattle.desk_text.specs.Places.{index_of, index_after}
use Rattle.laws.specs.Tests.{never, both, up_to}
use Rattle.desk_text.specs.Grammar.{newline}
use Rattle.desk_text.specs.Input.{Line, shut, unshut, lines, own_line, iv_line, iv_at, most_widths, bad_from, first_bad}
use Rattle.desk_text.specs.Report.{desk_of}
use Rattle.desk_text.specs.PieceLaws.{index_le, lines_first, lines_none}
use Rattle.desk_text.specs.GoodLines.{most_own, most_iv, own_size, iv_size}

-- ## The first line

-- A text that has bytes begins with a line that a newline closes, or with one that none closes.
data Begins (s : List ℕ) : Type 0 where
  with_shut : index_of newline s < length s → lines s ≡ shut (take (index_of newline s) s) ∷ lines (drop (suc (index_of newline s)) s) → Begins s
  with_open : index_of newline s ≡ length s → lines s ≡ unshut s ∷ [] → Begins s

begins : (s : List ℕ) → 0 < length s → Begins s
begins s h = go (up_to (length s) (index_of newline s))
  where
    go : (length s ≤ index_of newline s) ⊎ (index_of newline s < length s) → Begins s
    go (inl k) =
        let e : index_of newline s ≡ length s = omega (arith, index_le newline s) in
        with_open e (lines_none s h e)
    go (inr k) = with_shut k (lines_first s k)

-- The first newline stays where it is when more follows, and where there is none it can only come later.
index_stays : (s t : List ℕ) → index_of newline s < length s → index_of newline (s ++ t) ≡ index_of newline s
unfolding index_of index_after
index_stays [] t h = absurd (omega arith)
index_stays (x ∷ xs) t h = go (eqb x newline) (index_stays xs t) h
  where
    go : (b : Bool) → (index_of newline xs < length xs → index_of newline (xs ++ t) ≡ index_of newline xs) → index_after b (index_of newline xs) < suc (length xs)
        → index_after b (index_of newline (xs ++ t)) ≡ index_after b (index_of newline xs)
    go true ih k = refl
    go false ih k = rw (ih (omega arith))

index_later : (s t : List ℕ) → index_of newline s ≡ length s → length s ≤ index_of newline (s ++ t)
unfolding index_of index_after
index_later [] t h = omega arith
index_later (x ∷ xs) t h = go (eqb x newline) (index_later xs t) h
  where
    go : (b : Bool) → (index_of newline xs ≡ length xs → length xs ≤ index_of newline (xs ++ t)) → index_after b (index_of newline xs) ≡ suc (length xs)
        → suc (length xs) ≤ index_after b (index_of newline (xs ++ t))
    go true ih k = absurd (omega arith)
    go false ih k = omega (arith, ih (omega arith))

-- The first line that a newline closes is the same when more follows.
shut_stays : (s t : List ℕ) → index_of newline s < length s
    → lines (s ++ t) ≡ shut (take (index_of newline s) s) ∷ lines (drop (suc (index_of newline s)) s ++ t)
shut_stays s t h =
    let i : index_of newline (s ++ t) ≡ index_of newline s = index_stays s t h in
    let l : index_of newline (s ++ t) < length (s ++ t) = omega (arith, length-append s t) in
    lines_first (s ++ t) l ∙ rw (i, take-append-le (index_of newline s) s t (omega arith), drop-append-le (suc (index_of newline s)) s t h)

-- ## Later lines

-- line n cannot be good where no newline stands among the bytes that a good line can have
late_iv : (n : ℕ) (l : Line) → (n ≤ 1 + most_widths → most_iv < length l.bytes) → iv_at n l ≡ false
unfolding iv_at
late_iv n l h = go (iv_line l) (up_to n (1 + most_widths)) refl
  where
    go : (b : Bool) → (n ≤ 1 + most_widths) ⊎ (1 + most_widths < n) → iv_line l ≡ b → (leb n (1 + most_widths) && b) ≡ false
    go true (inl k) e = absurd (omega (arith, iv_size l e, h k))
    go false (inl k) e = end (leb n (1 + most_widths))
      where
        end : (c : Bool) → (c && false) ≡ false
        end true = refl
        end false = refl
    go b (inr k) e = rw (lt-leb n (1 + most_widths) k)

open_iv : (n : ℕ) (s : List ℕ) → iv_at n (unshut s) ≡ false
unfolding iv_at iv_line
open_iv n s = go (leb n (1 + most_widths))
  where
    go : (b : Bool) → (b && false) ≡ false
    go true = refl
    go false = refl

-- so that the first bad line is line n
long_bad : (n : ℕ) (s : List ℕ) → 0 < length s → (n ≤ 1 + most_widths → most_iv < index_of newline s) → bad_from n (lines s) ≡ n
unfolding bad_from
long_bad n s h k = go (begins s h)
  where
    go : Begins s → bad_from n (lines s) ≡ n
    go (with_open i e) = rw (e, open_iv n s)
    go (with_shut i e) =
        let m : length (take (index_of newline s) s) ≡ index_of newline s = length-take-le (index_of newline s) s (omega arith) in
        rw (e, late_iv n (shut (take (index_of newline s) s)) (λ j. omega (arith, k j)))

-- Some line from line n on is bad, and it is the same one whatever follows.
record Decides (n : ℕ) (s t : List ℕ) : Type 0 where
  stays : bad_from n (lines (s ++ t)) ≡ bad_from n (lines s)
  some : 0 < bad_from n (lines s)

-- a text's first line, up to its newline ..
abbrev first_of : List ℕ → Line
first_of s = shut (take (index_of newline s) s)

-- .. and what stands after that newline
abbrev rest_of : List ℕ → List ℕ
rest_of s = drop (suc (index_of newline s)) s

-- It is decided at line n, or at the lines after it where line n is good.
line_decides : (n : ℕ) (s t : List ℕ) → 0 < n → 0 < length s → (n ≤ 1 + most_widths → most_iv < length s)
    → (index_of newline s < length s → iv_at n (first_of s) ≡ true → Decides (n + 1) (rest_of s) t) → Decides n s t
unfolding bad_from
line_decides n s t p h k more = go (begins s h)
  where
    by : index_of newline s < length s → lines s ≡ first_of s ∷ lines (rest_of s) → (b : Bool) → iv_at n (first_of s) ≡ b → Decides n s t
    by i e false q = record { stays = rw (shut_stays s t i, e, q); some = rw (e, q) p }
    by i e true q = record { stays = rw (shut_stays s t i, e, q) (more i q).stays; some = rw (e, q) (more i q).some }

    go : Begins s → Decides n s t
    go (with_open i e) =
        let here : bad_from n (lines s) ≡ n = long_bad n s h (λ j. omega (arith, k j)) in
        record {
          stays = long_bad n (s ++ t) (omega (arith, length-append s t)) (λ j. omega (arith, k j, index_later s t i)) ∙ sym here;
          some = rw here p;
        }
    go (with_shut i e) = by i e (iv_at n (first_of s)) refl

-- what stands after a good line is at most 14 bytes less
rest_size : (n : ℕ) (s : List ℕ) → index_of newline s < length s → iv_at n (first_of s) ≡ true → length s ≤ 1 + most_iv + length (rest_of s)
unfolding iv_at
rest_size n s i q =
    let size = iv_size (first_of s) (both (leb n (1 + most_widths)) (iv_line (first_of s)) q).1 in
    omega (arith, length-drop (suc (index_of newline s)) s, length-take-le (index_of newline s) s (omega arith))

-- So many bytes decide where k later lines may be good: k times 14, and one.
later_decides : (k n : ℕ) (s t : List ℕ) → 0 < n → n + k ≡ 2 + most_widths → (1 + most_iv) * k < length s → Decides n s t
later_decides zero n s t p m h =
    line_decides n s t p (omega arith) (λ j. absurd (omega arith)) (λ i q. never q (late_iv n (first_of s) (λ j. absurd (omega arith))))
later_decides (suc k) n s t p m h =
    line_decides n s t p (omega arith) (λ j. omega arith)
    (λ i q. later_decides k (n + 1) (rest_of s) t (omega arith) (omega arith) (omega (arith, rest_size n s i q)))

-- ## The whole input

-- "38 + 16,384 × 14": the most bytes that a good input can have, newlines included
abbrev pub most_input : ℕ
most_input = 1 + most_own + most_widths * (1 + most_iv)

-- It is one line more than the first, and the first decides at once where it is bad.
record Judges (s t : List ℕ) : Type 0 where
  stays : first_bad (lines (s ++ t)) ≡ first_bad (lines s)
  some : 0 < first_bad (lines s)

long_own : (l : Line) → most_own < length l.bytes → own_line l ≡ false
long_own l h = go (own_line l) refl
  where
    go : (b : Bool) → own_line l ≡ b → b ≡ false
    go true e = absurd (omega (arith, own_size l e))
    go false e = refl

open_own : (s : List ℕ) → own_line (unshut s) ≡ false
unfolding own_line
open_own s = refl

long_first : (s : List ℕ) → most_own < index_of newline s → 0 < length s → first_bad (lines s) ≡ 1
long_first s h k = go (begins s k)
  where
    go : Begins s → first_bad (lines s) ≡ 1
    go (with_open i e) = rw (e, open_own s)
    go (with_shut i e) = rw (e, long_own (first_of s) (omega (arith, length-take-le (index_of newline s) s (omega arith))))

judges : (s t : List ℕ) → most_input < length s → Judges s t
judges s t h = go (begins s (omega arith))
  where
    by : index_of newline s < length s → lines s ≡ first_of s ∷ lines (rest_of s) → (b : Bool) → own_line (first_of s) ≡ b → Judges s t
    by i e false q = record { stays = rw (shut_stays s t i, e, q); some = rw (e, q) (omega arith) }
    by i e true q =
        let size = own_size (first_of s) q in
        let d : Decides 2 (rest_of s) t = later_decides most_widths 2 (rest_of s) t (omega arith) (omega arith) (omega (arith, length-drop (suc (index_of newline s)) s, length-take-le (index_of newline s) s (omega arith))) in
        record { stays = rw (shut_stays s t i, e, q) d.stays; some = rw (e, q) d.some }

    go : Begins s → Judges s t
    go (with_open i e) =
        let here : first_bad (lines s) ≡ 1 = long_first s (omega arith) (omega arith) in
        record {
          stays = long_first (s ++ t) (omega (arith, index_later s t i)) (omega (arith, length-append s t)) ∙ sym here;
          some = rw here (omega arith);
        }
    go (with_shut i e) = by i e (own_line (first_of s)) refl

-- A good input has at most 229,414 bytes.
pub good_size : (s : List ℕ) → first_bad (lines s) ≡ 0 → length s ≤ most_input
good_size s e = go (up_to (length s) most_input)
  where
    go : (length s ≤ most_input) ⊎ (most_input < length s) → length s ≤ most_input
    go (inl h) = h
    go (inr h) = absurd (omega (arith, (judges s [] h).some))

-- 229,415 bytes decide any input: what the desk writes is the same, whatever follows them.
pub enough : (s t : List ℕ) → most_input < length s → desk_of (s ++ t) ≡ desk_of s
unfolding desk_of
enough s t h =
    let j = judges s t h in
    let n : eqb (first_bad (lines s)) 0 ≡ false = ne_eqb (first_bad (lines s)) 0 (λ z. omega (arith, j.some)) in
    rw (j.stays, n)
