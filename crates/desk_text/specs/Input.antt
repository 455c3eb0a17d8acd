-- Definitions.
-- The desk's input: its lines, which of them is the first bad one, its labels and its widths.
use Rattle.std.specs.Prelude.{ℕ, ◌+◌, Bool, true, false, cond, ◌&&◌, List, [], ◌∷◌, eqb, leb, length, get_or}
use Rattle.label.specs.Labels.{is_label}
use Rattle.desk_text.specs.Grammar.{newline, fields, same, is_width, spelt}

-- ## Lines

-- A line: its bytes without the newline, and whether a newline closes it. Only what stands last can be open.
pub record Line : Type 0 where
  pub bytes : List ℕ
  pub closed : Bool

-- a line that a newline closes
abbrev pub shut : List ℕ → Line
shut l = record { bytes = l; closed = true }

-- one that none closes
abbrev pub unshut : List ℕ → Line
unshut l = record { bytes = l; closed = false }

-- a byte before the first line
abbrev pub onto : ℕ → List Line → List Line
onto x [] = unshut (x ∷ []) ∷ []
onto x (l ∷ ls) = record { bytes = x ∷ l.bytes; closed = l.closed } ∷ ls

-- the lines of a text; no bytes are no lines
unfoldable pub lines : List ℕ → List Line
lines [] = []
lines (x ∷ xs) = cond (eqb x newline) (shut [] ∷ lines xs) (onto x (lines xs))

-- a field of a line, counted from 0
abbrev pub field : ℕ → Line → List ℕ
field k l = get_or (fields l.bytes) k []

-- the line has so many fields, and the first is the word
abbrev pub opens_with : List ℕ → ℕ → Line → Bool
opens_with word n l = eqb (length (fields l.bytes)) n && same (field 0 l) word

-- ## Good lines

-- `own`
abbrev pub own : List ℕ
own = 111 ∷ 119 ∷ 110 ∷ []

-- `iv`
abbrev pub iv : List ℕ
iv = 105 ∷ 118 ∷ []

-- "one line `own`, customer, vehicle .. closed by a newline"
unfoldable pub own_line : Line → Bool
own_line l = l.closed && (opens_with own 3 l && (is_label (field 1 l) && is_label (field 2 l)))

-- "lines `iv`, width in decimal .. each line closed by a newline"
unfoldable pub iv_line : Line → Bool
iv_line l = l.closed && (opens_with iv 2 l && is_width (field 1 l))

-- "at most 16,384 `iv` lines"
abbrev pub most_widths : ℕ
most_widths = 16384

-- an `iv` line that is line n of the input, counted from 1: the first line is `own`, so line 16,385 is the last that may be
unfoldable pub iv_at : ℕ → Line → Bool
iv_at n l = leb n (1 + most_widths) && iv_line l

-- ## The first bad line

-- the number of the first bad line among those from line n on, and 0 where none is bad
unfoldable pub bad_from : ℕ → List Line → ℕ
bad_from n [] = 0
bad_from n (l ∷ ls) = cond (iv_at n l) (bad_from (n + 1) ls) n

-- "number of the first bad line (1 if empty)", and 0 for a good input
abbrev pub first_bad : List Line → ℕ
first_bad [] = 1
first_bad (l ∷ ls) = cond (own_line l) (bad_from 2 ls) 1

-- ## What a good input says

-- the first line, and those after it
abbrev pub first_line : List Line → Line
first_line [] = unshut []
first_line (l ∷ ls) = l

-- the lines after the first
abbrev pub later_lines : List Line → List Line
later_lines [] = []
later_lines (l ∷ ls) = ls

-- the customer's label
abbrev pub customer_of : List Line → List ℕ
customer_of ls = field 1 (first_line ls)

-- the vehicle's label
abbrev pub vehicle_of : List Line → List ℕ
vehicle_of ls = field 2 (first_line ls)

-- the widths of the lines from line n on, up to the first bad one where there is one
unfoldable pub widths_from : ℕ → List Line → List ℕ
widths_from n [] = []
widths_from n (l ∷ ls) = cond (iv_at n l) (spelt (field 1 l) ∷ widths_from (n + 1) ls) []

-- the intervals that an input records; none where its first line is bad
abbrev pub recording_of : List Line → List ℕ
recording_of ls = cond (own_line (first_line ls)) (widths_from 2 (later_lines ls)) []
