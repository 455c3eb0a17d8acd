-- Laws.
-- The signs that the machine is told, as the frame layer has them.
use Rattle.std.specs.Prelude.{◌≡◌, refl}
use Rattle.symbol.specs.declared.Symbol.{Symbol}
use Rattle.symbol.specs.declared.Symbol.TheVariants.{Noise, Bit0, Bit1, Eod, Sof as SofWidth, Eof, Ifs, Break, Stuck}
use Rattle.frame.specs.declared.Sign.{Sign as Told}
use Rattle.frame.specs.declared.Sign.TheVariants.{Bit, Shut, Sof, Wrong}
use Rattle.frame.specs.Signs.{Sign, wrong, sof, bit, shut}
use Rattle.frame.specs.Line.{sign_of}
use Rattle.frame.specs.ReadPromise.{fault_number}
use Rattle.frame_tests.specs.Shown.{sign_for}

-- what a sign that is told means: a fault by its number
abbrev pub meaning_of : Told → Sign
meaning_of (Wrong f) = wrong (fault_number f)
meaning_of Sof = sof
meaning_of (Bit one) = bit one
meaning_of (Shut eod) = shut eod

-- A symbol is told as what it shows.
pub sign_means : (s : Symbol) → meaning_of (sign_for s) ≡ sign_of s
sign_means Noise = refl
sign_means Bit0 = refl
sign_means Bit1 = refl
sign_means Eod = refl
sign_means SofWidth = refl
sign_means Eof = refl
sign_means Ifs = refl
sign_means Break = refl
sign_means Stuck = refl
