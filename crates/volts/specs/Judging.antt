-- Definitions.
-- What a gate says of one sample: document 01, "From volts to intervals".
use Rattle.std.specs.Prelude.{Bool, true, false, cond, ◌&&◌, Float}
use Rattle.std.specs.Float.{nan, inf, fin, binary32}
use Rattle.std.specs.Float.Ieee.{sub, lt, le}
use Rattle.volts.specs.declared.Gate.{Gate}
use Rattle.volts.specs.declared.Judged.{Judged}
use Rattle.volts.specs.declared.Judged.TheVariants.{Active, Passive, Between, Unusable}

-- a number of volts: neither an infinity nor a NaN
unfoldable pub is_finite : Float → Bool
is_finite nan = false
is_finite (inf s) = false
is_finite (fin s m e) = true

-- "A gate is good if all three are finite and passive level is below active level."
unfoldable pub good_gate : Gate → Bool
good_gate g = is_finite g.offset && is_finite g.active && is_finite g.passive && lt g.passive g.active

-- "The offset is subtracted from each sample, rounded once": the exact difference, rounded to the nearest f32, ties to even
abbrev pub corrected : Gate → Float → Float
corrected g x = sub binary32 x g.offset

-- "At or above the active level the sample is active, at or below the passive level passive"; what is neither is between.
-- The levels are compared with the corrected volts, which go along in the judgement.
unfoldable pub against : Gate → Float → Judged
against g d = cond (le g.active d) (Active d) (cond (le d g.passive) (Passive d) (Between d))

-- "or as unusable: a sample or difference that isn't finite"
unfoldable pub judged : Gate → Float → Judged
judged g x = cond (is_finite x && is_finite (corrected g x)) (against g (corrected g x)) Unusable
