-- A bit is short where it is a 1 and the line is active, or neither.
use mathlib.Core.Path.{◌≡◌, refl}
use mathlib.Core.Bool.{Bool, true, false, beq}
use Rattle.laws.specs.Tests.{never}
use Rattle.symbol.specs.declared.Clock.{Clock}
use Rattle.symbol.specs.Sending.{bit_width}

pub short_bit : (c : Clock) (active one : Bool) → beq active one ≡ true → c.short ≡ bit_width c active one
short_bit c false false e = refl
short_bit c false true e = never e refl
short_bit c true false e = never e refl
short_bit c true true e = refl

pub long_bit : (c : Clock) (active one : Bool) → beq active one ≡ false → c.long ≡ bit_width c active one
long_bit c false false e = never refl e
long_bit c false true e = refl
long_bit c true false e = refl
long_bit c true true e = never refl e
