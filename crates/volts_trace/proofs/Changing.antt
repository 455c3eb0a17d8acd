-- What the test of a changed level says: the level is the other one, or the same. Assumes nothing.
use mathlib.Core.Path.{◌≡◌, refl}
use mathlib.Core.Bool.{Bool, true, false, not, beq}
use Rattle.laws.specs.Tests.{never}

-- by a former level that is active ..
pub changed_active : (level : Bool) → not level ≡ not (beq level true)
changed_active true = refl
changed_active false = refl

-- .. and by one that is passive
pub changed_passive : (level : Bool) → level ≡ not (beq level false)
changed_passive true = refl
changed_passive false = refl

-- Where it holds the level is the other one ..
pub changed : (level active : Bool) → not (beq level active) ≡ true → not active ≡ level
changed true true t = never t refl
changed true false t = refl
changed false true t = refl
changed false false t = never t refl

-- .. and otherwise the same.
pub unchanged : (level active : Bool) → not (beq level active) ≡ false → active ≡ level
unchanged true true t = refl
unchanged true false t = never refl t
unchanged false true t = never refl t
unchanged false false t = refl

-- a level is not its other ..
pub other_level : (b : Bool) → beq (not b) b ≡ false
other_level true = refl
other_level false = refl

-- .. and is itself
pub same_level : (b : Bool) → beq b b ≡ true
same_level true = refl
same_level false = refl
