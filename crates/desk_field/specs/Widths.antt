-- Definitions.
-- The width that a field spells, or that it spells none.
use Rattle.std.specs.Prelude.{ℕ, Bool, true, false, ◌&&◌, List, ltb, Option, Some, None}
use Rattle.label.specs.Labels.{every}
use Rattle.desk_text.specs.Grammar.{digit, spelt, past_u32, is_width}

-- a width where a test holds
abbrev pub width_by : Bool → ℕ → Option ℕ
width_by true n = Some n
width_by false n = None

-- digits that spell a u32
unfoldable pub number_of : List ℕ → Option ℕ
number_of l = width_by (every digit l && ltb (spelt l) past_u32) (spelt l)

-- "Widths are decimal u32, no sign or leading zero"
unfoldable pub width_of : List ℕ → Option ℕ
width_of l = width_by (is_width l) (spelt l)
