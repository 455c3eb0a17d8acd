-- Definitions.
-- Document 01, "Symbols": its table of widths, and what an end is. A level is a Bool: true is active, false is passive.
use Rattle.std.specs.Prelude.{ℕ, ◌≤◌, ◌<◌, Bool, true, false, cond, not, ◌&&◌, leb, ltb}
use Rattle.symbol.specs.declared.Symbol.{Symbol}
use Rattle.symbol.specs.declared.Symbol.TheVariants.{Noise, Bit0, Bit1, Eod, Sof, Eof, Ifs, Break, Stuck}

-- The table as it stands on paper, a line for each symbol in each column: the widths that the symbol has at the level.
-- ⊥ where the column does not have the symbol.
abbrev pub Window : Bool → Symbol → ℕ → Type 0
Window false Noise w = w ≤ 34
Window false Bit0 w = (35 ≤ w) × (w ≤ 96)
Window false Bit1 w = (97 ≤ w) × (w ≤ 163)
Window false Eod w = (164 ≤ w) × (w ≤ 239)
Window false Eof w = (240 ≤ w) × (w ≤ 280)
Window false Ifs w = 281 ≤ w
Window false Sof w = ⊥
Window false Break w = ⊥
Window false Stuck w = ⊥
Window true Noise w = w ≤ 34
Window true Bit1 w = (35 ≤ w) × (w ≤ 96)
Window true Bit0 w = (97 ≤ w) × (w ≤ 163)
Window true Sof w = (164 ≤ w) × (w ≤ 239)
Window true Break w = (240 ≤ w) × (w < 1000000)
Window true Stuck w = 1000000 ≤ w
Window true Eod w = ⊥
Window true Eof w = ⊥
Window true Ifs w = ⊥

-- The symbol that the table gives a width: down the column, the first row that reaches so far.
unfoldable pub class_of : Bool → ℕ → Symbol
class_of false w =
    cond (leb w 34) Noise
    (cond (leb w 96) Bit0
    (cond (leb w 163) Bit1
    (cond (leb w 239) Eod
    (cond (leb w 280) Eof Ifs))))
class_of true w =
    cond (leb w 34) Noise
    (cond (leb w 96) Bit1
    (cond (leb w 163) Bit0
    (cond (leb w 239) Sof
    (cond (ltb w 1000000) Break Stuck))))

-- "an end is a passive interval of 240 or more"
unfoldable pub end_of : Bool → ℕ → Bool
end_of active w = not active && leb 240 w

-- the symbols that an end has
abbrev pub ends : Symbol → Bool
ends Noise = false
ends Bit0 = false
ends Bit1 = false
ends Eod = false
ends Sof = false
ends Eof = true
ends Ifs = true
ends Break = false
ends Stuck = false
