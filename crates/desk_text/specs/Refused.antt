-- Laws.
-- Which texts are refusals: a text is the refusal at a line exactly where that line is the first bad one.
use Rattle.std.specs.Prelude.{ℕ, ◌+◌, ◌*◌, ◌≤◌, ◌<◌, ◌≡◌, refl, Bool, true, false, List, ◌↔◌, eqb, get_or, drop}
use Rattle.std.proofs.Common.{sym, ap, ◌∙◌, arith, eqb-true}
use Rattle.std.proofs.lemmas.Bool.{eqb-false}
use Rattle.desk_text.specs.Grammar.{newline, spelt}
use Rattle.desk_text.specs.Input.{lines, most_widths, first_bad, customer_of, vehicle_of, recording_of}
use Rattle.desk_text.specs.Numerals.{decimal}
use Rattle.desk_text.specs.NumeralLaws.{spells_last, spelt_decimal}
use Rattle.desk_text.specs.Report.{report, refusal, desk_of}
use Rattle.desk_text.specs.Whole.{desk_good, desk_bad, first_few}

-- the number that stands after `refused` and a tab, with a zero for the newline
spelt_refusal : (n : ℕ) → n < 100000 → spelt (drop 8 (refusal n)) ≡ n * 10
spelt_refusal n h = spells_last 0 (decimal n) newline ∙ omega (arith, spelt_decimal n h)

-- Refusals at two lines are two texts.
pub refusal_once : (m n : ℕ) → m ≤ 2 + most_widths → n ≤ 2 + most_widths → refusal m ≡ refusal n → m ≡ n
refusal_once m n h k e =
    omega (arith, ap (λ (l : List ℕ). spelt (drop 8 l)) e, spelt_refusal m (omega arith), spelt_refusal n (omega arith))

-- A report begins with the header, and no refusal does.
pub report_not_refusal : (customer vehicle ws : List ℕ) (n : ℕ) → report customer vehicle ws ≡ refusal n → ⊥
unfolding report
report_not_refusal customer vehicle ws n e =
    let z : ◌≡◌ {A = ℕ} 99 114 = ap (λ (l : List ℕ). get_or l 0 0) e in
    omega arith

-- The text is the refusal at line n exactly where line n is the first bad one.
pub refused_exactly : (s : List ℕ) (n : ℕ) → 0 < n → n ≤ 2 + most_widths → (desk_of s ≡ refusal n) ↔ (first_bad (lines s) ≡ n)
refused_exactly s n some few = (go (eqb (first_bad (lines s)) 0) refl, λ e. desk_bad s (λ z. omega arith) ∙ ap refusal e)
  where
    go : (b : Bool) → eqb (first_bad (lines s)) 0 ≡ b → desk_of s ≡ refusal n → first_bad (lines s) ≡ n
    go true p e =
        absurd (report_not_refusal (customer_of (lines s)) (vehicle_of (lines s)) (recording_of (lines s)) n (sym (desk_good s (eqb-true (first_bad (lines s)) 0 p)) ∙ e))
    go false p e =
        refusal_once (first_bad (lines s)) n (first_few (lines s)) few (sym (desk_bad s (eqb-false (first_bad (lines s)) 0 p)) ∙ e)
