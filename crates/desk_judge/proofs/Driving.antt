-- The loops over the later lines. The first judges them: so many are good, and the first bad one among those left is the first
-- of all. The second lays the widths of good lines: what is laid and the widths of the lines left are the widths of all.
use Prim.Native.Nat.{ℕ, zero, suc, ◌+◌, ◌-◌, ◌≤◌, ◌<◌}
use mathlib.Core.Path.{◌≡◌, refl, sym, ap, ◌∙◌}
use mathlib.Core.Bool.{Bool, true, false, cond, not, and-false}
use mathlib.Core.List.{List, [], ◌∷◌}
use native.Mathlib.Numerals.{add-one}
use native.Mathlib.Omega.{arith}
use lib.Dec.{leb}
use lib.ListN.{length, take, drop, set, length-set, length-drop}
use lib.Seq.{sets}
use borrow.Author.Tests.{le-leb, lt-leb, leb-true}
use Rattle.std.specs.Prelude.{Option, Some, None}
use Rattle.std.specs.Option.{is_some}
use Rattle.desk_text.specs.Places.{index_of}
use Rattle.laws.specs.Tests.{never, both}
use Rattle.desk_text.specs.Grammar.{spelt}
use Rattle.desk_text.specs.Input.{Line, shut, unshut, lines, field, iv_line, iv_at, most_widths, bad_from, widths_from}
use Rattle.desk_text.specs.FoundLines.{rest_all, open_line, closed_line}
use Rattle.desk_field.specs.Widths.{width_by}
use Rattle.desk_judge.specs.Found.{iv_of, line_if, WidthsLaid}

-- ## What a line comes to

-- what the width that a line has tells of the line
width_good : (l : List ℕ) (x : ℕ) → iv_of l ≡ Some x → iv_line (shut l) ≡ true
unfolding iv_of
width_good l x e = go (iv_line (shut l)) refl e
  where
    go : (b : Bool) → iv_line (shut l) ≡ b → width_by b (spelt (field 1 (shut l))) ≡ Some x → iv_line (shut l) ≡ true
    go true p q = p
    go false p q = let z : ◌≡◌ {A = ℕ} 0 1 = cc in absurd (omega arith)

width_bad : (l : List ℕ) → iv_of l ≡ None → iv_line (shut l) ≡ false
unfolding iv_of
width_bad l e = go (iv_line (shut l)) refl e
  where
    go : (b : Bool) → iv_line (shut l) ≡ b → width_by b (spelt (field 1 (shut l))) ≡ None → iv_line (shut l) ≡ false
    go true p q = let z : ◌≡◌ {A = ℕ} 0 1 = cc in absurd (omega arith)
    go false p q = p

is_nothing : (w : Option ℕ) → is_some w ≡ false → w ≡ None
is_nothing None e = refl
is_nothing (Some x) e = never refl e

bad_late : (k : ℕ) (l : Line) → k ≡ most_widths → iv_at (2 + k) l ≡ false
unfolding iv_at
bad_late k l e = rw (lt-leb (2 + k) (1 + most_widths) (omega arith))

bad_line : (n : ℕ) (l : Line) → iv_line l ≡ false → iv_at n l ≡ false
unfolding iv_at
bad_line n l e = rw (e, and-false)

bad_open : (n : ℕ) (l : List ℕ) → iv_at n (unshut l) ≡ false
unfolding iv_at iv_line
bad_open n l = rw and-false

good_line : (k : ℕ) (l : Line) → k < most_widths → iv_line l ≡ true → iv_at (2 + k) l ≡ true
unfolding iv_at
good_line k l h e = rw (le-leb (2 + k) (1 + most_widths) (omega arith), e)

line_good : (k : ℕ) (l : Line) → iv_at (2 + k) l ≡ true → (k < most_widths) × (iv_line l ≡ true)
unfolding iv_at
line_good k l e =
    let a = both (leb (2 + k) (1 + most_widths)) (iv_line l) e in
    (omega (arith, leb-true (2 + k) (1 + most_widths) a.0), a.1)

-- ## What is left

-- what follows a line is shorter than the text that begins with it
pub shorter : (t : List ℕ) (e : ℕ) → e < length t → length (take (length t - (e + 1)) (drop (e + 1) t)) < length t
shorter t e h = rw (rest_all t (e + 1), length-drop (e + 1) t) (omega arith)

-- ## Judging

-- k lines are good, and the lines of t are left
pub record Passed (s t : List ℕ) (k : ℕ) : Type 0 where
  pub few : k ≤ most_widths
  pub short : length t ≤ length s
  pub stop : bad_from (2 + k) (lines t) ≡ bad_from 2 (lines s)

pub passed_start : (s : List ℕ) → Passed s s 0
passed_start s = record { few = omega arith; short = omega arith; stop = refl }

line_is : (n m : ℕ) → n ≡ m → 0 < n → Some n ≡ line_if m
line_is zero m e h = absurd (omega arith)
line_is (suc n) m e h = rw (← e) refl

module _ {s t : List ℕ} {k : ℕ} (passed : Passed s t k) where
  pub passed_end : length t ≤ 0 → None ≡ line_if (bad_from 2 (lines s))
  unfolding lines bad_from
  passed_end h = ap line_if (fine t h ∙ passed.stop)
    where
      fine : (t : List ℕ) → length t ≤ 0 → 0 ≡ bad_from (2 + k) (lines t)
      fine [] h = refl
      fine (x ∷ xs) h = absurd (omega arith)

  -- line 2 + k is bad
  stops : (l : Line) (ls : List Line) → lines t ≡ l ∷ ls → iv_at (2 + k) l ≡ false → Some (2 + k) ≡ line_if (bad_from 2 (lines s))
  unfolding bad_from
  stops l ls e b =
      let here : bad_from (2 + k) (lines t) ≡ 2 + k = rw (e, b) in
      line_is (2 + k) (bad_from 2 (lines s)) (sym here ∙ passed.stop) (omega arith)

  pub passed_open : 0 < length t → index_of 10 t ≡ length t → Some (2 + k) ≡ line_if (bad_from 2 (lines s))
  passed_open h q = stops (unshut t) [] (open_line t h q) (bad_open (2 + k) t)

  module _ {e : ℕ} (at : e ≡ index_of 10 t) (inside : e < length t) where
    pub passed_full : k ≡ most_widths → Some (2 + k) ≡ line_if (bad_from 2 (lines s))
    passed_full q = stops (shut (take e t)) (lines (drop (e + 1) t)) (closed_line t at inside) (bad_late k (shut (take e t)) q)

    pub passed_bad : {w : Option ℕ} {b : Bool} → w ≡ iv_of (take e t) → is_some w ≡ not b → b ≡ true → Some (2 + k) ≡ line_if (bad_from 2 (lines s))
    passed_bad {w} a n b =
        stops (shut (take e t)) (lines (drop (e + 1) t)) (closed_line t at inside)
        (bad_line (2 + k) (shut (take e t)) (width_bad (take e t) (sym a ∙ is_nothing w (n ∙ ap not b))))

    pub passed_next : {w : Option ℕ} (x : ℕ) → w ≡ iv_of (take e t) → w ≡ Some x → (k ≡ most_widths → ⊥)
        → Passed s (take (length t - (e + 1)) (drop (e + 1) t)) (k + 1)
    unfolding bad_from
    passed_next x a b n =
        rw (rest_all t (e + 1))
        (on (drop (e + 1) t) (closed_line t at inside) (good_line k (shut (take e t)) (omega (arith, passed.few)) (width_good (take e t) x (sym a ∙ b)))
        (omega (arith, passed.few)) (omega (arith, length-drop (e + 1) t)))
      where
        on : (u : List ℕ) → lines t ≡ shut (take e t) ∷ lines u → iv_at (2 + k) (shut (take e t)) ≡ true → k < most_widths → length u ≤ length t → Passed s u (k + 1)
        on u p q h j =
            let m : 2 + (k + 1) ≡ 2 + k + 1 = omega arith in
            let d : bad_from (2 + k) (lines t) ≡ bad_from (2 + k + 1) (lines u) = rw (p, q) in
            record { few = omega arith; short = omega (arith, passed.short); stop = rw m (sym d ∙ passed.stop) }

pub ruleset passed_laws = (passed_start, passed_end, passed_open, passed_full, passed_bad, passed_next, shorter)

-- ## Laying

-- k widths are laid, and the lines of t, all of them good, are left
pub record Left (s t entry lent : List ℕ) (k : ℕ) : Type 0 where
  pub few : k ≤ most_widths
  pub space : most_widths ≤ length entry
  pub short : length t ≤ length s
  pub long : length lent ≡ length entry
  pub good : bad_from (2 + k) (lines t) ≡ 0
  pub count : k + length (widths_from (2 + k) (lines t)) ≡ length (widths_from 2 (lines s))
  pub laid : sets lent k (widths_from (2 + k) (lines t)) ≡ sets entry 0 (widths_from 2 (lines s))

pub left_start : (s entry : List ℕ) → bad_from 2 (lines s) ≡ 0 → most_widths ≤ length entry → Left s s entry entry 0
left_start s entry g h =
    record { few = omega arith; space = h; short = omega arith; long = refl; good = g; count = omega arith; laid = refl }

module _ {s t entry lent : List ℕ} {k : ℕ} (left : Left s t entry lent k) where
  -- the next line is good, and none after it is bad
  next_good : (l : Line) (ls : List Line) → lines t ≡ l ∷ ls → (iv_at (2 + k) l ≡ true) × (bad_from (2 + k + 1) ls ≡ 0)
  unfolding bad_from
  next_good l ls e = go (iv_at (2 + k) l) refl (rw e at left.good)
    where
      go : (b : Bool) → iv_at (2 + k) l ≡ b → cond b (bad_from (2 + k + 1) ls) (2 + k) ≡ 0 → (iv_at (2 + k) l ≡ true) × (bad_from (2 + k + 1) ls ≡ 0)
      go true p q = (p, q)
      go false p q = absurd (omega arith)

  -- with no newline left, no line is left, since it would be open and bad
  pub left_end : index_of 10 t ≡ length t → WidthsLaid s entry lent k
  unfolding lines widths_from
  left_end q =
      let w : widths_from (2 + k) (lines t) ≡ [] = none t q (λ h. open_line t h q) (next_good (unshut t) []) in
      record { count = omega (arith, left.count, ap length w); laid = ap (λ (l : List ℕ). sets lent k l) (sym w) ∙ left.laid }
    where
      none : (t : List ℕ) → index_of 10 t ≡ length t → (0 < length t → lines t ≡ unshut t ∷ [])
          → (lines t ≡ unshut t ∷ [] → (iv_at (2 + k) (unshut t) ≡ true) × (bad_from (2 + k + 1) [] ≡ 0)) → widths_from (2 + k) (lines t) ≡ []
      none [] q f g = refl
      none (x ∷ xs) q f g = never (g (f (omega arith))).0 (bad_open (2 + k) (x ∷ xs))

  module _ {e : ℕ} (at : e ≡ index_of 10 t) (inside : e < length t) where
    split : lines t ≡ shut (take e t) ∷ lines (drop (e + 1) t)
    split = closed_line t at inside

    here : (k < most_widths) × (iv_line (shut (take e t)) ≡ true)
    here = line_good k (shut (take e t)) (next_good (shut (take e t)) (lines (drop (e + 1) t)) split).0

    -- there is a word for the line
    pub left_word : k < length lent
    left_word = omega (arith, here.0, left.space, left.long)

    width_is : iv_of (take e t) ≡ Some (spelt (field 1 (shut (take e t))))
    unfolding iv_of
    width_is = rw here.1

    -- .. and it has a width
    pub left_width : {w : Option ℕ} → w ≡ iv_of (take e t) → is_some w ≡ true
    left_width a = rw (a, width_is)

    pub left_next : {w : Option ℕ} (x : ℕ) → w ≡ iv_of (take e t) → w ≡ Some x
        → Left s (take (length t - (e + 1)) (drop (e + 1) t)) entry (set lent k x) (k + 1)
    unfolding widths_from
    left_next x a b =
        rw (rest_all t (e + 1)) (on (drop (e + 1) t) split (spells (sym width_is ∙ sym a ∙ b)) (omega (arith, length-drop (e + 1) t)))
      where
        spells : {n : ℕ} → Some n ≡ Some x → n ≡ x
        spells q = cc

        on : (u : List ℕ) → lines t ≡ shut (take e t) ∷ lines u → spelt (field 1 (shut (take e t))) ≡ x → length u ≤ length t → Left s u entry (set lent k x) (k + 1)
        on u p v j =
            let m : 2 + (k + 1) ≡ 2 + k + 1 = omega arith in
            let g = next_good (shut (take e t)) (lines u) p in
            let w : widths_from (2 + k) (lines t) ≡ x ∷ widths_from (2 + k + 1) (lines u) = rw (p, g.0, v) in
            record {
              few = omega (arith, here.0);
              space = left.space;
              short = omega (arith, left.short);
              long = length-set lent k x ∙ left.long;
              good = rw m g.1;
              count = rw m (omega (arith, left.count, ap length w));
              laid = rw (m, add-one) (ap (λ (l : List ℕ). sets lent k l) (sym w) ∙ left.laid);
            }

pub ruleset left_laws = (left_start, left_end, left_word, left_width, left_next, shorter)
