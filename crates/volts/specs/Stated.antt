-- Definitions.
-- What the theorems of this room are stated with.
use Rattle.std.specs.Prelude.{ℕ, ◌<◌, ◌+◌, ◌≤◌, Bool, not, List, [], ◌∷◌, ◌++◌, ◌≡◌, Float, length, get_or, replicate}
use Rattle.std.specs.Float.{nan}
use Rattle.volts.specs.declared.Gate.{Gate}
use Rattle.volts.specs.declared.Judged.TheVariants.{Unusable}
use Rattle.volts.specs.Judging.{judged}

-- a place in the trace, and that its sample is unusable
abbrev pub UnusableIn : Gate → List Float → Type 0
UnusableIn g s = (i : ℕ) × (i < length s) × (judged g (get_or s i nan) ≡ Unusable)

-- how long the intervals are together
abbrev pub total : List ℕ → ℕ
total [] = 0
total (w ∷ ws) = w + total ws

-- every later interval: all but the first
abbrev pub later : List ℕ → List ℕ
later [] = []
later (w ∷ ws) = ws

-- each of the widths is at least 1
abbrev pub AtLeastOne : List ℕ → Type 0
AtLeastOne [] = Unit
AtLeastOne (w ∷ ws) = (1 ≤ w) × AtLeastOne ws

-- the level at each sample, where the first interval is at the level given and the levels alternate from there
abbrev pub laid_out : Bool → List ℕ → List Bool
laid_out level [] = []
laid_out level (w ∷ ws) = replicate w level ++ laid_out (not level) ws
