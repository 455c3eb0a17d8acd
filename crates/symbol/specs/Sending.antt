-- Definitions.
-- With what width a symbol is sent: document 01, "Writing and the bench", over the bit levels of SAE J1850.
use Rattle.std.specs.Prelude.{ℕ, ◌≡◌, Bool, true, false, not, Option, None, Some}
use Rattle.units.specs.declared.Micros.{Micros}
use Rattle.symbol.specs.declared.Symbol.{Symbol}
use Rattle.symbol.specs.declared.Symbol.TheVariants.{Noise, Bit0, Bit1, Eod, Sof, Eof, Ifs, Break, Stuck}
use Rattle.symbol.specs.declared.Clock.{Clock}
use Rattle.symbol.specs.Clocks.{Short, Long, Start}

-- A bit's width at a clock, by the level and by whether the bit is a 1: passive short is 0, active short is 1.
abbrev pub bit_width : Clock → Bool → Bool → Micros
bit_width c false false = c.short
bit_width c false true = c.long
bit_width c true false = c.long
bit_width c true true = c.short

-- "Opening and closing are 300"
abbrev pub end_width : Micros
end_width = record { 0 = 300 }

-- what is sent for a symbol that one level alone has: its width there, and nothing at the other level
abbrev pub only_where : Bool → Micros → Option Micros
only_where true w = Some w
only_where false w = None

-- What a clock sends for a symbol at a level. "EOD uses the SOF width"; the only end sent is an IFS.
abbrev pub sent_of : Clock → Bool → Symbol → Option Micros
sent_of c active Bit0 = Some (bit_width c active false)
sent_of c active Bit1 = Some (bit_width c active true)
sent_of c active Sof = only_where active c.sof
sent_of c active Eod = only_where (not active) c.sof
sent_of c active Ifs = only_where (not active) end_width
sent_of c active Noise = None
sent_of c active Eof = None
sent_of c active Break = None
sent_of c active Stuck = None

-- the widths that some good clock sends for a symbol at a level; ⊥ where none is sent
abbrev pub SendingWindow : Bool → Symbol → ℕ → Type 0
SendingWindow false Bit0 w = Short w
SendingWindow false Bit1 w = Long w
SendingWindow false Eod w = Start w
SendingWindow false Ifs w = w ≡ 300
SendingWindow false Noise w = ⊥
SendingWindow false Sof w = ⊥
SendingWindow false Eof w = ⊥
SendingWindow false Break w = ⊥
SendingWindow false Stuck w = ⊥
SendingWindow true Bit0 w = Long w
SendingWindow true Bit1 w = Short w
SendingWindow true Sof w = Start w
SendingWindow true Noise w = ⊥
SendingWindow true Eod w = ⊥
SendingWindow true Eof w = ⊥
SendingWindow true Ifs w = ⊥
SendingWindow true Break w = ⊥
SendingWindow true Stuck w = ⊥

-- the symbol of a bit
abbrev pub bit_symbol : Bool → Symbol
bit_symbol false = Bit0
bit_symbol true = Bit1
