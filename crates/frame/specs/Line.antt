-- Definitions.
-- A recording as document 01 looks at it: the symbol at each place, what the place shows, and the first place of which
-- something is true.
use Rattle.std.specs.Prelude.{ℕ, zero, suc, ◌+◌, ◌-◌, ◌%◌, Bool, true, false, cond, List, [], ◌++◌, eqb, length, get_or}
use Rattle.symbol.specs.declared.Symbol.{Symbol}
use Rattle.symbol.specs.declared.Symbol.TheVariants.{Noise, Bit0, Bit1, Eod, Sof, Eof, Ifs, Break, Stuck}
use Rattle.symbol.specs.Classes.{class_of}
use Rattle.frame.specs.Signs.{Sign, wrong, sof, bit, shut, bits_shown, is_end}

-- ## Symbols

-- "Even positions are passive, odd ones active"
abbrev pub active_at : ℕ → Bool
active_at k = eqb (k % 2) 1

-- the symbol at a place
unfoldable pub symbol_at : List ℕ → ℕ → Symbol
symbol_at ws k = class_of (active_at k) (get_or ws k 0)

-- a number for each symbol, by which two are told apart
abbrev pub mark : Symbol → ℕ
mark Noise = 0
mark Bit0 = 1
mark Bit1 = 2
mark Eod = 3
mark Sof = 4
mark Eof = 5
mark Ifs = 6
mark Break = 7
mark Stuck = 8

-- the symbol is x
abbrev pub is : Symbol → Symbol → Bool
is x s = eqb (mark x) (mark s)

-- what a symbol shows inside a frame: noise, a break and a stuck line are wrong by themselves, as faults 11, 13 and 14
abbrev pub sign_of : Symbol → Sign
sign_of Noise = wrong 11
sign_of Bit0 = bit false
sign_of Bit1 = bit true
sign_of Eod = shut true
sign_of Sof = sof
sign_of Eof = shut false
sign_of Ifs = shut false
sign_of Break = wrong 13
sign_of Stuck = wrong 14

-- ## Lines

-- a recording as a frame is looked for in it: how many intervals there are, and what each of them shows
pub record Line : Type 0 where
  pub count : ℕ
  pub shows : ℕ → Sign

-- the line of document 01: each interval shows what its symbol does
abbrev pub single : List ℕ → Line
single ws = record { count = length ws; shows = λ k. sign_of (symbol_at ws k) }

-- an end at a place
abbrev pub end_at : Line → ℕ → Bool
end_at l k = is_end (l.shows k)

-- ## The first place

-- what a search comes to: no place, or the first one
pub data Found : Type 0 where
  nowhere : Found
  at : ℕ → Found

-- the first of the n places i, i + 1, .. at which the test holds
unfoldable pub first : (ℕ → Bool) → ℕ → ℕ → Found
first test i zero = nowhere
first test i (suc n) = cond (test i) (at i) (first test (i + 1) n)

-- the first place from i on, and before k
abbrev pub first_in : (ℕ → Bool) → ℕ → ℕ → Found
first_in test i k = first test i (k - i)

-- "Reading from position p looks for the first end at an even place at or after p .. That is the opening."
unfoldable pub opening : Line → ℕ → Found
opening l p = first_in (end_at l) p l.count

-- ## The bits that places show

-- the bits of n places, from i on
unfoldable pub bits_from : Line → ℕ → ℕ → List Bool
bits_from l i zero = []
bits_from l i (suc n) = bits_shown (l.shows i) ++ bits_from l (i + 1) n

-- the bits of the places from i on, and before k
abbrev pub bits_in : Line → ℕ → ℕ → List Bool
bits_in l i k = bits_from l i (k - i)
