-- Definitions.
-- The starred items of document 01, "Worked on paper", from the definitions alone: one statement over one list.
use Rattle.std.specs.Prelude.{ℕ, ◌≡◌, refl, Bool, true, false, List, [], ◌∷◌, length, Float}
use Rattle.std.specs.Int.Count.{count_trailing_zeros}
use Rattle.std.specs.Float.Ieee.{of_int, sub, add, neg, sum, round, size, units, odd, span, climb, lt, le, eq}
use Rattle.symbol.specs.declared.Symbol.{Symbol}
use Rattle.symbol.specs.declared.Symbol.TheVariants.{Noise, Bit0, Bit1, Eod, Eof}
use Rattle.symbol.specs.Classes.{class_of}
use Rattle.symbol.specs.Clocks.{nominal_clock}
use Rattle.checkbyte.specs.Register.{check_of, register_from, step_of}
use Rattle.volts.specs.declared.Gate.{Gate}
use Rattle.volts.specs.Judging.{judged, against, is_finite}
use Rattle.volts.specs.Intervals.{intervals_of}
use Rattle.volts.specs.Worked.{usual_gate, volts}
use Rattle.frame.specs.Bits.{bits_of}
use Rattle.bench.specs.declared.Station.{Station}
use Rattle.bench.specs.declared.Fared.TheVariants.{Through, Lost}
use Rattle.bench.specs.Course.{asked, shortest, longest, on_line, play}
use Rattle.bench.specs.Round.{pulses_of, sofs_asked, sum_of, round_among, round_of}
use Rattle.bench.specs.Worked.{holds, clock_of}

-- A starred item: what is given, and what document 01 says comes of it.
pub data Item : Type 0 where
  -- the check byte of a message
  check_is : (message : List ℕ) → (check : ℕ) → Item
  -- the symbol of a width at a level
  symbol_is : (active : Bool) → (width : ℕ) → Symbol → Item
  -- the intervals of samples through a gate
  intervals_are : Gate → (samples : List Float) → (widths : List ℕ) → Item
  -- in a round of two stations, the bit at which the first loses to the second
  lost_at : Station → Station → (bit : ℕ) → Item
  -- the words and the line time of a round of two stations
  round_lasts : Station → Station → (words time : ℕ) → Item

-- what document 01 says of the item
abbrev pub Says : Item → Type 0
Says (check_is message check) = check_of message ≡ check
Says (symbol_is active width symbol) = class_of active width ≡ symbol
Says (intervals_are gate samples widths) = intervals_of gate samples ≡ widths
Says (lost_at a b bit) = (round_of (a ∷ b ∷ [])).fares ≡ Lost bit ∷ Through ∷ []
Says (round_lasts a b words time) = (length (round_of (a ∷ b ∷ [])).words ≡ words) × ((round_of (a ∷ b ∷ [])).line_time ≡ time)

-- it is so of every item of a list
abbrev pub Each : List Item → Type 0
Each [] = Unit {0}
Each (item ∷ items) = Says item × Each items

-- The stations of the starred rounds: FF at the quickest clock ..
abbrev quick : Station
quick = holds (clock_of 49 112 182) (0xFF ∷ [])

-- .. FF FF ..
abbrev longer : Station
longer = holds nominal_clock (0xFF ∷ 0xFF ∷ [])

-- .. FF ..
abbrev ones : Station
ones = holds nominal_clock (0xFF ∷ [])

-- .. and 00, at the nominal one.
abbrev zeros : Station
zeros = holds nominal_clock (0x00 ∷ [])

-- the starred items, in the order of document 01
abbrev pub items : List Item
items =
    check_is (0x00 ∷ []) 0x3B ∷
    check_is (0xFF ∷ []) 0xFF ∷
    check_is (0xFF ∷ 0xFF ∷ []) 0x3B ∷
    check_is (0xFF ∷ 0x01 ∷ []) 0xE2 ∷
    check_is (0x00 ∷ 0xC4 ∷ []) 0xFF ∷
    symbol_is true 34 Noise ∷
    symbol_is true 35 Bit1 ∷
    symbol_is true 96 Bit1 ∷
    symbol_is true 97 Bit0 ∷
    symbol_is false 163 Bit1 ∷
    symbol_is false 164 Eod ∷
    symbol_is false 239 Eod ∷
    symbol_is false 240 Eof ∷
    intervals_are usual_gate (volts 0 ∷ volts 7 ∷ volts 3 ∷ volts 3 ∷ volts 1 ∷ []) (1 ∷ 3 ∷ 1 ∷ []) ∷
    lost_at quick longer 17 ∷
    round_lasts quick longer 27 2740 ∷
    lost_at ones zeros 1 ∷
    []

-- Every starred item is so.
pub starred : Each items
unfolding check_of register_from step_of class_of judged against is_finite of_int sub add neg sum round size units odd span climb lt le eq count_trailing_zeros round_of round_among play asked shortest longest on_line pulses_of sofs_asked sum_of bits_of
starred = (refl, (refl, (refl, (refl, (refl, (refl, (refl, (refl, (refl, (refl, (refl, (refl, (refl, (refl, (refl, ((refl, refl), (refl, tt)))))))))))))))))
