-- Definitions.
-- The level of the line at each judged sample: document 01, "From volts to intervals". A level is true where the line is
-- active and false where it is passive.
use Rattle.std.specs.Prelude.{Bool, true, false, ◌||◌, List, [], ◌∷◌, map, Float}
use Rattle.volts.specs.Judging.{judged}
use Rattle.volts.specs.declared.Gate.{Gate}
use Rattle.volts.specs.declared.Judged.{Judged}
use Rattle.volts.specs.declared.Judged.TheVariants.{Active, Passive, Between, Unusable}

-- "Each sample is judged": the judgements of a trace, one for each sample
abbrev pub judgements : Gate → List Float → List Judged
judgements g s = map (judged g) s

-- "otherwise the line keeps its former level". A trace with an unusable sample is turned away, so the level after one is
-- nobody's answer; it stands here as the former level.
abbrev pub level_after : Bool → Judged → Bool
level_after former (Active d) = true
level_after former (Passive d) = false
level_after former (Between d) = former
level_after former Unusable = former

-- the level at each sample, where the line had a given level before the first
abbrev pub levels_from : Bool → List Judged → List Bool
levels_from former [] = []
levels_from former (j ∷ js) = level_after former j ∷ levels_from (level_after former j) js

-- "It starts passive."
abbrev pub levels : List Judged → List Bool
levels js = levels_from false js

-- a judgement says that its sample cannot be used
abbrev pub is_unusable : Judged → Bool
is_unusable (Active d) = false
is_unusable (Passive d) = false
is_unusable (Between d) = false
is_unusable Unusable = true

-- "some sample unusable"
abbrev pub some_unusable : List Judged → Bool
some_unusable [] = false
some_unusable (j ∷ js) = is_unusable j || some_unusable js
