-- What the code's tests say of a float: that the library's test for a finite number is the definition's, and that a finite
-- difference has a finite minuend. Assumes nothing.
use mathlib.Core.Path.{◌≡◌, refl, sym, ◌∙◌}
use mathlib.Core.Bool.{Bool, true, false, cond, not, ◌&&◌, beq}
use lib.Ieee.{Float, nan, inf, fin, binary32, neg, add, sub}
use Rattle.std.specs.Float.{float_is_finite}
use Rattle.volts.specs.Judging.{is_finite, corrected, against, judged}
use Rattle.volts.specs.declared.Gate.{Gate}
use Rattle.volts.specs.declared.Judged.TheVariants.{Unusable}

-- the library's test is the definition
pub same_finite : (x : Float) → float_is_finite x ≡ is_finite x
unfolding float_is_finite is_finite
same_finite nan = refl
same_finite (inf s) = refl
same_finite (fin s m e) = refl

no_cancelling : (s b : Bool) → false ≡ is_finite (cond b (inf s) nan)
unfolding is_finite
no_cancelling s true = refl
no_cancelling s false = refl

-- a sample that is not finite leaves no finite difference, so that both are finite exactly where the difference is
difference : (x o : Float) → (is_finite x && is_finite (sub binary32 x o)) ≡ is_finite (sub binary32 x o)
unfolding is_finite sub add neg
difference nan o = refl
difference (inf s) nan = refl
difference (inf s) (inf t) = no_cancelling s (beq s (not t))
difference (inf s) (fin t n d) = refl
difference (fin s m e) o = refl

-- what the test of a difference says of the sample's judgement
pub usable : (g : Gate) (x : Float) → float_is_finite (corrected g x) ≡ true → against g (corrected g x) ≡ judged g x
unfolding judged
usable g x h = rw (difference, ← same_finite, h)

pub unusable : (g : Gate) (x : Float) → float_is_finite (corrected g x) ≡ false → Unusable ≡ judged g x
unfolding judged
unusable g x h = rw (difference, ← same_finite, h)

-- what a test `!f(..)` says of the value that f is known to answer
pub said_no : {r a : Bool} → r ≡ a → r ≡ false → a ≡ false
said_no e h = sym e ∙ h

pub said_yes : {r a : Bool} → r ≡ a → r ≡ true → a ≡ true
said_yes e h = sym e ∙ h
