-- Machinery.
-- What the steps of judging find, told by the definitions of `desk_text`.
use Rattle.std.specs.Prelude.{ℕ, zero, suc, ◌≡◌, Bool, true, false, cond, ◌&&◌, List, [], eqb, length, get_or, Option, None, Some, Result, Ok, Err}
use Rattle.std.proofs.lemmas.List.Edits.{sets}
use Rattle.desk_text.specs.declared.Labels.{Labels}
use Rattle.desk_text.specs.declared.GoodInput.{GoodInput}
use Rattle.desk_text.specs.declared.InputRefusal.{InputRefusal}
use Rattle.desk_text.specs.declared.InputRefusal.TheVariants.{Bad}
use Rattle.label.specs.Labels.{is_label}
use Rattle.desk_text.specs.Grammar.{fields, spelt}
use Rattle.desk_text.specs.Input.{shut, lines, field, own_line, iv_line, bad_from, widths_from}
use Rattle.desk_field.specs.Widths.{width_by}

-- the labels where a test holds, by their lengths
abbrev pub own_by : Bool → List ℕ → List ℕ → Option Labels
own_by true c v = Some (record { customer = length c; vehicle = length v })
own_by false c v = None

-- the bytes of a line, which a newline closes, as an `iv` line ..
unfoldable pub iv_of : List ℕ → Option ℕ
iv_of l = width_by (iv_line (shut l)) (spelt (field 1 (shut l)))

-- .. and as an `own` line
unfoldable pub own_of : List ℕ → Option Labels
own_of l = own_by (own_line (shut l)) (field 1 (shut l)) (field 2 (shut l))

-- a field, counted from 0
abbrev pub field_of : ℕ → List ℕ → List ℕ
field_of k l = get_or (fields l) k []

-- two fields that are labels
unfoldable pub labels_of : List ℕ → Option Labels
labels_of l = own_by (eqb (length (fields l)) 2 && (is_label (field_of 0 l) && is_label (field_of 1 l))) (field_of 0 l) (field_of 1 l)

-- the number of a line, or none for 0
abbrev pub line_if : ℕ → Option ℕ
line_if zero = None
line_if (suc n) = Some (suc n)

-- The widths of the lines of s, which begin at line 2, are laid from the first word on.
pub record WidthsLaid (s entry exit : List ℕ) (widths : ℕ) : Type 0 where
  pub count : widths ≡ length (widths_from 2 (lines s))
  pub laid : exit ≡ sets entry 0 (widths_from 2 (lines s))

-- what judging comes to after a good first line with these labels
abbrev pub judged_by : Bool → Labels → ℕ → ℕ → Result GoodInput InputRefusal
judged_by true labels widths line = Ok (record { labels = labels; widths = widths })
judged_by false labels widths line = Err (Bad line)

-- The answer after a good first line with these labels, and the lent words, in which only good lines lay anything.
pub record AfterOwn (labels : Labels) (s entry exit : List ℕ) (r : Result GoodInput InputRefusal) : Type 0 where
  pub answer : r ≡ judged_by (eqb (bad_from 2 (lines s)) 0) labels (length (widths_from 2 (lines s))) (bad_from 2 (lines s))
  pub laid : exit ≡ sets entry 0 (cond (eqb (bad_from 2 (lines s)) 0) (widths_from 2 (lines s)) [])
