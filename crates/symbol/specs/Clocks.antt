-- Definitions.
-- Document 01, "Writing and the bench": what a clock is, and when its widths lie in the sending windows.
use Rattle.std.specs.Prelude.{ℕ, ◌≤◌, Bool, ◌&&◌, leb}
use Rattle.symbol.specs.declared.Clock.{Clock}

-- the sending window of a short bit, its edges included
abbrev pub Short : ℕ → Type 0
Short w = (49 ≤ w) × (w ≤ 79)

-- that of a long bit
abbrev pub Long : ℕ → Type 0
Long w = (112 ≤ w) × (w ≤ 145)

-- that of the SOF
abbrev pub Start : ℕ → Type 0
Start w = (182 ≤ w) × (w ≤ 218)

-- the width w lies in the window from first to last
abbrev pub within_of : ℕ → ℕ → ℕ → Bool
within_of first last w = leb first w && leb w last

-- "A clock is three widths: short 49..79, long 112..145, SOF 182..218"
unfoldable pub good_of : Clock → Bool
good_of c = within_of 49 79 c.short.0 && (within_of 112 145 c.long.0 && within_of 182 218 c.sof.0)

-- "nominal is 64, 128, 200"
abbrev pub nominal_clock : Clock
nominal_clock = record { short = record { 0 = 64 }; long = record { 0 = 128 }; sof = record { 0 = 200 } }

-- a clock whose three widths lie in the sending windows
pub record Good (c : Clock) : Type 0 where
  pub short : Short c.short.0
  pub long : Long c.long.0
  pub sof : Start c.sof.0
