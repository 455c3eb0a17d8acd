-- How the first line and the lines after it decide the promise of judging: a law for each way out.
use Prim.Native.Nat.{ℕ, zero, suc, ◌+◌, ◌-◌, ◌≤◌, ◌<◌}
use mathlib.Core.Path.{◌≡◌, refl, sym, ◌∙◌}
use mathlib.Core.Bool.{Bool, true, false, cond, not}
use mathlib.Core.List.{List, [], ◌∷◌}
use mathlib.Core.Logic.{◌⊎◌, inl, inr}
use native.Mathlib.Omega.{arith}
use lib.Dec.{eqb}
use lib.ListN.{length, take, drop}
use lib.Seq.{sets}
use borrow.Author.Tests.{lt-ltb, le-ltb, eq-eqb, ne_eqb}
use Rattle.desk_text.specs.Places.{index_of}
use Rattle.std.specs.Prelude.{Option, Some, None, Result, Ok, Err}
use Rattle.laws.specs.Lent.{sets_first}
use Rattle.laws.specs.Tests.{up_to}
use Rattle.desk_text.specs.declared.Labels.{Labels}
use Rattle.desk_text.specs.declared.GoodInput.{GoodInput}
use Rattle.desk_text.specs.declared.InputRefusal.{InputRefusal}
use Rattle.desk_text.specs.declared.InputRefusal.TheVariants.{Bad, FewLentWords}
use Rattle.desk_text.specs.Input.{Line, shut, unshut, lines, field, own_line, most_widths, bad_from, widths_from, first_bad, recording_of}
use Rattle.desk_text.specs.Whole.{recording_few}
use Rattle.desk_text.specs.FoundLines.{rest_all, open_line, closed_line}
use Rattle.desk_text.specs.Promise.{JudgedTale, if_good, judging_by, judging, judged_told, laid_on, JudgePromise}
use Rattle.desk_judge.specs.Found.{own_by, own_of, line_if, WidthsLaid, AfterOwn, judged_by}

-- ## After a good first line

none_is_zero : (n : ℕ) → None ≡ line_if n → n ≡ 0
none_is_zero zero e = refl
none_is_zero (suc n) e = let z : ◌≡◌ {A = ℕ} 0 1 = cc in absurd (omega arith)

some_is : (line n : ℕ) → Some line ≡ line_if n → (line ≡ n) × (n ≡ 0 → ⊥)
some_is line zero e = let z : ◌≡◌ {A = ℕ} 0 1 = cc in absurd (omega arith)
some_is line (suc n) e = (cc, λ z. omega arith)

module _ (s : List ℕ) where
  pub none_bad : None ≡ line_if (bad_from 2 (lines s)) → bad_from 2 (lines s) ≡ 0
  none_bad e = none_is_zero (bad_from 2 (lines s)) e

  pub after_good : {entry exit : List ℕ} {n : ℕ} (labels : Labels) → None ≡ line_if (bad_from 2 (lines s)) → WidthsLaid s entry exit n
      → AfterOwn labels s entry exit (Ok (record { labels = labels; widths = n }))
  after_good labels e t =
      let c = eq-eqb (bad_from 2 (lines s)) 0 (none_bad e) in
      record { answer = rw (c, t.count); laid = t.laid ∙ rw c }

  pub after_bad : {entry : List ℕ} {line : ℕ} (labels : Labels) → Some line ≡ line_if (bad_from 2 (lines s)) → AfterOwn labels s entry entry (Err (Bad line))
  after_bad {line = line} labels e =
      let d = some_is line (bad_from 2 (lines s)) e in
      let c = ne_eqb (bad_from 2 (lines s)) 0 d.1 in
      record { answer = rw (c, d.0); laid = rw c }

pub ruleset after_laws = (none_bad, after_good, after_bad)

-- ## The first line

own_good : (l : List ℕ) (labels : Labels) → own_of l ≡ Some labels
    → (own_line (shut l) ≡ true) × (length (field 1 (shut l)) ≡ labels.customer) × (length (field 2 (shut l)) ≡ labels.vehicle)
unfolding own_of
own_good l labels e = go (own_line (shut l)) refl e
  where
    go : (b : Bool) → own_line (shut l) ≡ b → own_by b (field 1 (shut l)) (field 2 (shut l)) ≡ Some labels
        → (own_line (shut l) ≡ true) × (length (field 1 (shut l)) ≡ labels.customer) × (length (field 2 (shut l)) ≡ labels.vehicle)
    go true p q = (p, cc, cc)
    go false p q = let z : ◌≡◌ {A = ℕ} 0 1 = cc in absurd (omega arith)

own_bad : (l : List ℕ) → own_of l ≡ None → own_line (shut l) ≡ false
unfolding own_of
own_bad l e = go (own_line (shut l)) refl e
  where
    go : (b : Bool) → own_line (shut l) ≡ b → own_by b (field 1 (shut l)) (field 2 (shut l)) ≡ None → own_line (shut l) ≡ false
    go true p q = let z : ◌≡◌ {A = ℕ} 0 1 = cc in absurd (omega arith)
    go false p q = p

-- ## The whole input

pub refuses_61 : (s entry : List ℕ) → length entry < most_widths → JudgePromise s entry entry (Err FewLentWords)
unfolding judging
refuses_61 s entry h = record { tells_it = rw (lt-ltb (length entry) most_widths h); lends_it = rw (lt-ltb (length entry) most_widths h) }

-- the number of judging where enough is lent
abbrev number_if : (good : Bool) → ℕ
number_if good = cond (not good) 62 0

-- .. by the lines
abbrev number_by : List Line → ℕ
number_by ls = number_if (eqb (first_bad ls) 0)

module _ (s entry : List ℕ) (h : most_widths ≤ length entry) where
  -- what the lines come to settles the promise
  promised : (ls : List Line) → lines s ≡ ls → (exit : List ℕ) (r : Result GoodInput InputRefusal) → judged_told r ≡ judging_by (number_by ls) ls → exit ≡ laid_on (cond (eqb (number_by ls) 0) (recording_of ls) []) entry → JudgePromise s entry exit r
  unfolding judging
  promised ls e exit r p q = record {
    tells_it = rw (le-ltb (length entry) most_widths h, e) p;
    lends_it = rw (le-ltb (length entry) most_widths h, e) q;
  }

  -- a first line that is bad
  refused_first : (ls : List Line) → lines s ≡ ls → first_bad ls ≡ 1 → JudgePromise s entry entry (Err (Bad 1))
  refused_first ls e p = promised ls e entry (Err (Bad 1)) (rw p) (rw p)

  pub first_open : index_of 10 s ≡ length s → JudgePromise s entry entry (Err (Bad 1))
  unfolding own_line lines
  first_open q = go (up_to (length s) 0)
    where
      empty : (s : List ℕ) → length s ≤ 0 → s ≡ []
      empty [] h = refl
      empty (x ∷ xs) h = absurd (omega arith)

      go : (length s ≤ 0) ⊎ (0 < length s) → JudgePromise s entry entry (Err (Bad 1))
      go (inl z) = refused_first [] (rw (empty s z)) refl
      go (inr z) = refused_first (unshut s ∷ []) (open_line s z q) refl

  module _ (e : ℕ) (at : e ≡ index_of 10 s) (inside : e < length s) where
    split : lines s ≡ shut (take e s) ∷ lines (drop (e + 1) s)
    split = closed_line s at inside

    pub first_bad_law : {w : Option Labels} → w ≡ own_of (take e s) → w ≡ None → JudgePromise s entry entry (Err (Bad 1))
    first_bad_law a b =
        let n : own_line (shut (take e s)) ≡ false = own_bad (take e s) (sym a ∙ b) in
        refused_first (shut (take e s) ∷ lines (drop (e + 1) s)) split (rw n)

    pub first_good : {w : Option Labels} {labels : Labels} {exit : List ℕ} {r : Result GoodInput InputRefusal} → w ≡ own_of (take e s) → w ≡ Some labels
        → AfterOwn labels (take (length s - (e + 1)) (drop (e + 1) s)) entry exit r → JudgePromise s entry exit r
    first_good {labels = labels} {exit = exit} {r = r} a b t = go (drop (e + 1) s) split (rw (rest_all s (e + 1)) at t)
      where
        g : (own_line (shut (take e s)) ≡ true) × (length (field 1 (shut (take e s))) ≡ labels.customer) × (length (field 2 (shut (take e s))) ≡ labels.vehicle)
        g = own_good (take e s) labels (sym a ∙ b)

        told : ℕ → List ℕ → JudgedTale
        told n u = record { number = n; line = cond (eqb n 62) (bad_from 2 (lines u)) 0; customer = if_good n labels.customer; vehicle = if_good n labels.vehicle; widths = if_good n (length (widths_from 2 (lines u))) }

        by : (c : Bool) (u : List ℕ) → judged_told (judged_by c labels (length (widths_from 2 (lines u))) (bad_from 2 (lines u))) ≡ told (number_if c) u
        by true u = refl
        by false u = refl

        laid : (c : Bool) (ws : List ℕ) → length ws ≤ length entry → exit ≡ sets entry 0 (cond c ws []) → exit ≡ laid_on (cond (eqb (number_if c) 0) ws []) entry
        laid true ws few d = d ∙ sets_first entry ws few
        laid false ws few d = d

        go : (u : List ℕ) → lines s ≡ shut (take e s) ∷ lines u → AfterOwn labels u entry exit r → JudgePromise s entry exit r
        go u p d =
            let few : length (widths_from 2 (lines u)) ≤ most_widths = rw g.0 at (recording_few (shut (take e s) ∷ lines u)) in
            promised (shut (take e s) ∷ lines u) p exit r
            (rw (d.answer, g.0, g.1, g.2) (by (eqb (bad_from 2 (lines u)) 0) u))
            (rw g.0 (laid (eqb (bad_from 2 (lines u)) 0) (widths_from 2 (lines u)) (omega arith) d.laid))

pub ruleset first_laws = (refuses_61, first_open, first_bad_law, first_good)
