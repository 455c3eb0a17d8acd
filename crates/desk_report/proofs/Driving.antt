-- The loop over the answers: what is laid so far and the lines of the answers left are the lines of all.
use Prim.Native.Nat.{ℕ, suc, ◌+◌, ◌-◌, ◌≤◌, ◌<◌}
use mathlib.Core.Path.{◌≡◌, refl, sym, ap, ◌∙◌}
use mathlib.Core.Bool.{Bool, true, false}
use mathlib.Core.List.{List, ◌++◌, append-nil}
use native.Mathlib.Omega.{arith}
use lib.ListN.{length}
use borrow.Rule.Slice.PartMut.{put_mid}
use Rattle.frame.specs.Line.{single}
use Rattle.frame.specs.Faults.{most_bytes}
use Rattle.frame.specs.Reading.{Outcome, good, quiet, unfinished, faulty, refused}
use Rattle.frame.specs.ReadStated.{goes_on}
use Rattle.frame.specs.ReadingOn.{next_of, last as reading_last, more, reads_once}
use Rattle.frame.proofs.RecordingOn.{progress, ReadsOn, answers_in, reads_on}
use Rattle.desk_text.specs.Report.{answer_text, answers_text}
use Rattle.std.specs.Prelude.{Option, Some, None}
use Rattle.desk_report.specs.declared.lines.Step.{Step}
use Rattle.desk_report.specs.Laying.{Laid, Space}
use Rattle.desk_report.specs.Reporting.{answer_at, onwards, text_from, Stepped}
use Rattle.desk_report.proofs.Laying.{after, Left, none_yet, space_last, space_next, last, next}

-- ## One answer and the rest

goes : (x : Outcome) (q : ℕ) → onwards x ≡ Some q → (goes_on x ≡ true) × (next_of x ≡ q)
goes (good f) q e = (refl, cc)
goes (quiet next) q e = let z : ◌≡◌ {A = ℕ} 0 1 = cc in absurd (omega arith)
goes (unfinished opening) q e = let z : ◌≡◌ {A = ℕ} 0 1 = cc in absurd (omega arith)
goes (faulty number next) q e = (refl, cc)
goes (refused number) q e = let z : ◌≡◌ {A = ℕ} 0 1 = cc in absurd (omega arith)

ends : (x : Outcome) → onwards x ≡ None → goes_on x ≡ false
ends (good f) e = let z : ◌≡◌ {A = ℕ} 0 1 = cc in absurd (omega arith)
ends (quiet next) e = refl
ends (unfinished opening) e = refl
ends (faulty number next) e = let z : ◌≡◌ {A = ℕ} 0 1 = cc in absurd (omega arith)
ends (refused number) e = refl

module _ (customer vehicle ws : List ℕ) where
  all : (p : ℕ) → p ≤ length ws → ReadsOn ws most_bytes p (answers_in (length ws + 1 - p) ws most_bytes p)
  all p h = reads_on (length ws + 1 - p) ws most_bytes p (omega arith) (omega arith)

  text_last : (p : ℕ) → p ≤ length ws → goes_on (answer_at ws p) ≡ false → text_from customer vehicle ws p ≡ answer_text customer vehicle (answer_at ws p)
  unfolding text_from answers_text
  text_last p h e = ap (answers_text customer vehicle) (reads_once (all p h) (reading_last e)) ∙ append-nil (answer_text customer vehicle (answer_at ws p))

  text_more : (p : ℕ) → p ≤ length ws → goes_on (answer_at ws p) ≡ true
      → text_from customer vehicle ws p ≡ answer_text customer vehicle (answer_at ws p) ++ text_from customer vehicle ws (next_of (answer_at ws p))
  unfolding text_from answers_text
  text_more p h e =
      let g = progress most_bytes (single ws) p most_bytes e in
      ap (answers_text customer vehicle) (reads_once (all p h) (more e (all (next_of (answer_at ws p)) (omega arith))))

  -- ## The loop

  -- the lines of all answers
  abbrev all_lines : List ℕ
  all_lines = text_from customer vehicle ws 0

  abbrev line_at : ℕ → List ℕ
  line_at p = answer_text customer vehicle (answer_at ws p)

  -- the lines of the answers from p on are left
  pub record LinesLeft (entry lent : List ℕ) (k p : ℕ) : Type 0 where
    pub inside : p ≤ length ws
    pub lines : Left (text_from customer vehicle ws p) all_lines entry lent k

  -- .. where reading goes on at some place, and all of them are laid where it does not
  abbrev pub LeftOn : List ℕ → List ℕ → ℕ → Option ℕ → Type 0
  LeftOn entry lent k None = Laid all_lines entry lent k
  LeftOn entry lent k (Some p) = LinesLeft entry lent k p

  -- how far reading is from the end
  abbrev pub ahead : Option ℕ → ℕ
  ahead None = 0
  ahead (Some p) = suc (length ws - p)

  pub left_start : {entry : List ℕ} → Space all_lines entry → LeftOn entry entry 0 (Some 0)
  left_start h = record { inside = omega arith; lines = none_yet h }

  module _ {entry lent : List ℕ} {k p : ℕ} (left : LinesLeft entry lent k p) where
    -- the line of the answer at p is the first of those left
    left_space : Space (line_at p) (after k lent)
    left_space = go (goes_on (answer_at ws p)) refl
      where
        go : (b : Bool) → goes_on (answer_at ws p) ≡ b → Space (line_at p) (after k lent)
        go true e = space_next _ _ (rw (text_more p left.inside e) at left.lines)
        go false e = space_last (rw (text_last p left.inside e) at left.lines)

    module _ {part : List ℕ} {step : Step} (s : Stepped customer vehicle ws p (after k lent) part step) where
      abbrev exit : List ℕ
      exit = put_mid k (length lent - k) lent part

      -- with no answer after it, all lines are laid
      text_ends : step.next ≡ None → Laid all_lines entry exit (k + step.length)
      text_ends e = last (rw (text_last p left.inside (ends (answer_at ws p) (sym s.follows ∙ e))) at left.lines) s.line

      text_goes : (q : ℕ) → step.next ≡ Some q → LinesLeft entry exit (k + step.length) q
      text_goes q e =
          let g = goes (answer_at ws p) q (sym s.follows ∙ e) in
          let o = progress most_bytes (single ws) p most_bytes g.0 in
          let r : text_from customer vehicle ws p ≡ line_at p ++ text_from customer vehicle ws q = text_more p left.inside g.0 ∙ ap (λ (n : ℕ). line_at p ++ text_from customer vehicle ws n) g.1 in
          record { inside = omega (arith, g.1); lines = next (rw r at left.lines) s.line }

      -- reading goes on further on
      text_less : (q : ℕ) → step.next ≡ Some q → length ws - q < length ws - p
      text_less q e =
          let g = goes (answer_at ws p) q (sym s.follows ∙ e) in
          let o = progress most_bytes (single ws) p most_bytes g.0 in
          omega (arith, g.1)

      left_next : LeftOn entry exit (k + step.length) step.next
      left_next = go step.next refl
        where
          go : (n : Option ℕ) → step.next ≡ n → LeftOn entry exit (k + step.length) n
          go None e = text_ends e
          go (Some q) e = text_goes q e

      left_less : ahead step.next < ahead (Some p)
      left_less = go step.next refl
        where
          go : (n : Option ℕ) → step.next ≡ n → ahead n < ahead (Some p)
          go None e = omega arith
          go (Some q) e = omega (arith, text_less q e)

  -- the same, told by whether there is a next answer
  module _ (entry lent : List ℕ) (k : ℕ) {p : ℕ} {n : Option ℕ} (e : n ≡ Some p) (left : LeftOn entry lent k n) where
    pub line_space : Space (line_at p) (after k lent)
    line_space = left_space (rw e at left)

    module _ {part : List ℕ} {step : Step} (s : Stepped customer vehicle ws p (after k lent) part step) where
      pub lines_next : LeftOn entry (put_mid k (length lent - k) lent part) (k + step.length) step.next
      lines_next = left_next (rw e at left) s

      pub lines_less : ahead step.next < ahead n
      lines_less = rw e (left_less (rw e at left) s)
