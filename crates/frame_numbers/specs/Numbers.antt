-- Definitions.
-- A number for each symbol and each kind of response, since enums do not cross to other languages.
use Rattle.std.specs.Prelude.{ℕ, cond, eqb}
use Rattle.symbol.specs.declared.Symbol.{Symbol}
use Rattle.symbol.specs.declared.Symbol.TheVariants.{Noise, Bit0, Bit1, Eod, Sof, Eof, Ifs, Break, Stuck}
use Rattle.frame.specs.declared.Response.{Response}
use Rattle.frame.specs.declared.Response.TheVariants.{Without, Plain, Checked}

-- the number of each symbol
abbrev pub symbol_number : Symbol → ℕ
symbol_number Noise = 0
symbol_number Bit0 = 1
symbol_number Bit1 = 2
symbol_number Eod = 3
symbol_number Sof = 4
symbol_number Eof = 5
symbol_number Ifs = 6
symbol_number Break = 7
symbol_number Stuck = 8

-- the number of each kind of response
abbrev pub kind_number : Response → ℕ
kind_number Without = 0
kind_number Plain = 1
kind_number Checked = 2

-- the kind that a number asks for
abbrev pub kind_of : ℕ → Response
kind_of k = cond (eqb k 0) Without (cond (eqb k 1) Plain Checked)
