-- Machinery.
-- What a symbol shows inside a frame, as the frame machine is told it.
use Rattle.std.specs.Prelude.{true, false}
use Rattle.symbol.specs.declared.Symbol.{Symbol}
use Rattle.symbol.specs.declared.Symbol.TheVariants.{Noise as NoiseWidth, Bit0, Bit1, Eod, Sof as SofWidth, Eof, Ifs, Break as BreakWidth, Stuck as StuckWidth}
use Rattle.frame.specs.declared.Fault.TheVariants.{Noise, Break, Stuck}
use Rattle.frame.specs.declared.Sign.{Sign}
use Rattle.frame.specs.declared.Sign.TheVariants.{Bit, Shut, Sof as Start, Wrong}

-- what a symbol shows inside a frame
abbrev pub sign_for : Symbol → Sign
sign_for NoiseWidth = Wrong Noise
sign_for Bit0 = Bit false
sign_for Bit1 = Bit true
sign_for Eod = Shut true
sign_for SofWidth = Start
sign_for Eof = Shut false
sign_for Ifs = Shut false
sign_for BreakWidth = Wrong Break
sign_for StuckWidth = Wrong Stuck
