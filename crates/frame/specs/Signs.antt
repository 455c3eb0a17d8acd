-- Definitions.
-- What an interval shows inside a frame, whatever the line: the frame layer sees no widths.
use Rattle.std.specs.Prelude.{ℕ, Bool, true, false, not, ◌||◌, List, [], ◌∷◌}

-- It is wrong by itself, by the number of its fault; it is a SOF; it is a bit; or it is an EOD or an end, which shut a part.
pub data Sign : Type 0 where
  wrong : (number : ℕ) → Sign
  sof : Sign
  bit : (one : Bool) → Sign
  shut : (eod : Bool) → Sign

-- the number of what is wrong by itself, and 0 where nothing is
abbrev pub wrong_of : Sign → ℕ
wrong_of (wrong n) = n
wrong_of sof = 0
wrong_of (bit b) = 0
wrong_of (shut eod) = 0

-- the bits that the interval completes
abbrev pub bits_shown : Sign → List Bool
bits_shown (wrong n) = []
bits_shown sof = []
bits_shown (bit b) = b ∷ []
bits_shown (shut eod) = []

-- it is an EOD
abbrev pub is_eod : Sign → Bool
is_eod (wrong n) = false
is_eod sof = false
is_eod (bit b) = false
is_eod (shut eod) = eod

-- it is an end
abbrev pub is_end : Sign → Bool
is_end (wrong n) = false
is_end sof = false
is_end (bit b) = false
is_end (shut eod) = not eod

-- it is a bit, or a part of one
abbrev pub is_bit : Sign → Bool
is_bit (wrong n) = false
is_bit sof = false
is_bit (bit b) = true
is_bit (shut eod) = false

-- it is a SOF
abbrev pub is_sof : Sign → Bool
is_sof (wrong n) = false
is_sof sof = true
is_sof (bit b) = false
is_sof (shut eod) = false

-- "EOD or end": it shuts a part
abbrev pub shuts : Sign → Bool
shuts s = is_eod s || is_end s
