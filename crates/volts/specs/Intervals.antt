-- Definitions.
-- The intervals of a trace: document 01, "From volts to intervals".
use Rattle.std.specs.Prelude.{ℕ, suc, Bool, true, false, List, [], ◌∷◌, Float}
use Rattle.volts.specs.Levels.{judgements, levels}
use Rattle.volts.specs.declared.Gate.{Gate}

-- How long the line stays at each level, in samples of a microsecond each. The run that goes on is at the level given first
-- and has lasted the number of samples given second: a sample at its level makes it longer, one at the other level ends it.
abbrev pub runs : Bool → ℕ → List Bool → List ℕ
runs level width [] = width ∷ []
runs true width (true ∷ bs) = runs true (suc width) bs
runs true width (false ∷ bs) = width ∷ runs false 1 bs
runs false width (false ∷ bs) = runs false (suc width) bs
runs false width (true ∷ bs) = width ∷ runs true 1 bs

-- "No samples give no intervals." Otherwise "the first is passive and may be 0".
abbrev pub widths : List Bool → List ℕ
widths [] = []
widths (b ∷ bs) = runs false 0 (b ∷ bs)

-- the intervals that a gate makes of a trace, in microseconds
abbrev pub intervals_of : Gate → List Float → List ℕ
intervals_of g s = widths (levels (judgements g s))
