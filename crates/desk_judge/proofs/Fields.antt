-- What a line is, by how it begins and where its tab stands: a law for each way out of the functions that judge one line.
use Prim.Native.Nat.{ℕ, suc, ◌+◌, ◌-◌, ◌<◌}
use mathlib.Core.Path.{◌≡◌, refl, sym, ap, ◌∙◌}
use mathlib.Core.Bool.{Bool, true, false, ◌&&◌, and-false}
use mathlib.Core.List.{List, [], ◌∷◌, ◌++◌}
use native.Mathlib.Numerals.{add-one}
use native.Mathlib.Omega.{arith}
use lib.Dec.{eqb}
use lib.Pointwise.{pointwise}
use lib.ListN.{length, take, drop, length-drop}
use lib.Seq.{length-take-le}
use borrow.Author.Tests.{eq-eqb, ne_eqb, eqb-true, eqb-false}
use Rattle.std.specs.Prelude.{Option, Some, None}
use Rattle.laws.specs.Tests.{never, both}
use Rattle.label.specs.Labels.{label_byte, is_label}
use Rattle.desk_text.specs.declared.Labels.{Labels}
use Rattle.desk_text.specs.Places.{index_of}
use Rattle.desk_text.specs.Grammar.{tab, pieces, fields, same, digit, spelt, is_width}
use Rattle.desk_text.specs.Input.{shut, field, own, iv, iv_line, own_line}
use Rattle.desk_text.specs.FoundLines.{rest_all}
use Rattle.desk_text.specs.PieceLaws.{pieces_first, pieces_none, Shape, one, several, shape}
use Rattle.desk_text.specs.GoodLines.{iv_is, own_is}
use Rattle.desk_judge.specs.Found.{own_by, iv_of, own_of, labels_of}
use Rattle.desk_field.specs.Widths.{width_by, width_of}

and_true : (b : Bool) → (b && true) ≡ b
and_true true = refl
and_true false = refl

one_fewer : (n : ℕ) → eqb (suc n) 3 ≡ eqb n 2
one_fewer n = go (eqb n 2) refl
  where
    go : (b : Bool) → eqb n 2 ≡ b → eqb (suc n) 3 ≡ b
    go true e = eq-eqb (suc n) 3 (ap suc (eqb-true n 2 e))
    go false e = ne_eqb (suc n) 3 (λ q. eqb-false n 2 e (omega arith))

-- three fields or more are not two
many : (n : ℕ) → eqb (suc (suc (suc n))) 2 ≡ false
many n = ne_eqb (suc (suc (suc n))) 2 (λ q. omega arith)

-- a text that begins with a word is the word and the rest
begins : (w s : List ℕ) → pointwise eqb (take (length w) s) w ≡ true → s ≡ w ++ drop (length w) s
begins [] s h = refl
begins (x ∷ w) [] h = never h refl
begins (x ∷ w) (y ∷ s) h =
    let a = both (eqb y x) (pointwise eqb (take (length w) s) w) h in
    let r : s ≡ w ++ drop (length w) s = begins w s a.1 in
    rw (eqb-true y x a.0, ← r)

-- ## An `iv` line

-- `iv` and a tab
abbrev iv_tab : List ℕ
iv_tab = iv ++ (tab ∷ [])

module _ (s : List ℕ) where
  pub iv_other : {r : Option ℕ} → pointwise eqb (take 3 s) iv_tab ≡ false → r ≡ None → r ≡ iv_of s
  unfolding iv_of
  iv_other h e = e ∙ go (iv_line (shut s)) refl
    where
      go : (b : Bool) → iv_line (shut s) ≡ b → None ≡ width_by b (spelt (field 1 (shut s)))
      go true t = never refl (rw (iv_is (shut s) t).made at h)
      go false t = refl

  width_last : (u : List ℕ) → fields s ≡ iv ∷ fields u → Shape digit tab u → width_of u ≡ iv_of s
  unfolding iv_of iv_line width_of is_width same
  width_last u p (one e) = rw (p, e)
  width_last u p (several a b bs e z) = rw (p, e, many (length bs), z, and-false, and-false)

  pub iv_width : {w : Option ℕ} {u : List ℕ} → pointwise eqb (take 3 s) iv_tab ≡ true → u ≡ drop 3 s → w ≡ width_of u → w ≡ iv_of s
  unfolding digit pieces
  iv_width {u = u} h e q =
      let b : s ≡ iv_tab ++ u = rw e (begins iv_tab s h) in
      q ∙ width_last u (ap fields b) (shape digit tab refl u)

pub ruleset iv_laws = (iv_other, iv_width)

-- ## Two labels

module _ (s : List ℕ) where
  pub labels_alone : {r : Option Labels} → index_of 9 s ≡ length s → r ≡ None → r ≡ labels_of s
  unfolding labels_of
  labels_alone h e = e ∙ rw (pieces_none tab s h)

  module _ {m : ℕ} (at : m ≡ index_of 9 s) (h : m < length s) where
    -- the first field ends at the tab
    parts : fields s ≡ take m s ∷ fields (drop (m + 1) s)
    parts = pieces_first tab s (omega arith) ∙ rw (← at, add-one)

    label_last : (u : List ℕ) → fields s ≡ take m s ∷ fields u → is_label (take m s) ≡ true → Shape label_byte tab u → own_by (is_label u) (take m s) u ≡ labels_of s
    unfolding labels_of is_label
    label_last u p k (one e) = rw (p, k, e)
    label_last u p k (several a b bs e z) = rw (p, k, e, many (length bs), z, and-false)

    last : is_label (take m s) ≡ true → own_by (is_label (drop (m + 1) s)) (take m s) (drop (m + 1) s) ≡ labels_of s
    unfolding label_byte
    last t = label_last (drop (m + 1) s) parts t (shape label_byte tab refl (drop (m + 1) s))

    pub labels_first : {r : Bool} → r ≡ is_label (take m s) → r ≡ false → None ≡ labels_of s
    unfolding labels_of
    labels_first e t = rw (parts, ← e, t, and-false)

    pub labels_second : {q r : Bool} → r ≡ is_label (take m s) → r ≡ true → q ≡ is_label (take (length s - (m + 1)) (drop (m + 1) s)) → q ≡ false → None ≡ labels_of s
    labels_second {q} e t p u = rw (← last (sym e ∙ t), ← rest_all s (m + 1), ← p, u)

    pub labels_both : {q r : Bool} → r ≡ is_label (take m s) → r ≡ true → q ≡ is_label (take (length s - (m + 1)) (drop (m + 1) s)) → q ≡ true
        → Some (record { customer = m; vehicle = length s - (m + 1) }) ≡ labels_of s
    labels_both {q} e t p u =
        let k : is_label (drop (m + 1) s) ≡ true = rw (← rest_all s (m + 1)) (sym p ∙ u) in
        let a : length (take m s) ≡ m = length-take-le m s (omega arith) in
        let b : length (drop (m + 1) s) ≡ length s - (m + 1) = length-drop (m + 1) s in
        rw (k, a, b) at (last (sym e ∙ t))

pub ruleset labels_laws = (labels_alone, labels_first, labels_second, labels_both)

-- ## An `own` line

-- `own` and a tab
abbrev own_tab : List ℕ
own_tab = own ++ (tab ∷ [])

module _ (s : List ℕ) where
  pub own_other : {r : Option Labels} → pointwise eqb (take 4 s) own_tab ≡ false → r ≡ None → r ≡ own_of s
  unfolding own_of
  own_other h e = e ∙ go (own_line (shut s)) refl
    where
      go : (b : Bool) → own_line (shut s) ≡ b → None ≡ own_by b (field 1 (shut s)) (field 2 (shut s))
      go true t = never refl (rw (own_is (shut s) t).made at h)
      go false t = refl

  labels_last : (u : List ℕ) → fields s ≡ own ∷ fields u → labels_of u ≡ own_of s
  unfolding own_of own_line labels_of same
  labels_last u p = rw (p, and_true, one_fewer (length (fields u)))

  pub own_labels : {w : Option Labels} {u : List ℕ} → pointwise eqb (take 4 s) own_tab ≡ true → u ≡ drop 4 s → w ≡ labels_of u → w ≡ own_of s
  unfolding pieces
  own_labels {u = u} h e q =
      let b : s ≡ own_tab ++ u = rw e (begins own_tab s h) in
      q ∙ labels_last u (ap fields b)

pub ruleset own_laws = (own_other, own_labels)
