-- Definitions.
-- A station of the row: document 01, "Each has a clock and 0 to 11 stored message bytes, 0 meaning empty."
use Rattle.std.specs.Prelude.{ℕ, Bool, cond, ◌&&◌, List, [], eqb, leb, take, replicate}
use Rattle.symbol.specs.Clocks.{good_of, nominal_clock}
use Rattle.checkbyte.specs.Register.{with_check}
use Rattle.frame.specs.Bits.{bits_of}
use Rattle.bench.specs.declared.Station.{Station}

-- "at most 32" stations
abbrev pub most_stations : ℕ
most_stations = 32

-- "0 to 11 stored message bytes"
abbrev pub most_stored : ℕ
most_stored = 11

-- A message's bits, in the order in which they are sent: those of its bytes, then those of its check byte. A bit is a
-- Bool: true is a 1.
abbrev pub Bits : Type 0
Bits = List Bool

-- the bits that a message sends
abbrev pub bits_sent : List ℕ → Bits
bits_sent m = bits_of (with_check m)

-- the message that a station stores
abbrev pub stored : Station → List ℕ
stored s = take s.len s.bytes

-- "0 meaning empty"; a station that is not empty is a holder
abbrev pub empty : Station → Bool
empty s = eqb s.len 0

-- the bits that wait at a station: none where it is empty
abbrev pub waiting_at : Station → Bits
waiting_at s = cond (empty s) [] (bits_sent (stored s))

-- what 39 asks of each station: no "stored length over 11", no "bad clock"
abbrev pub sound : Station → Bool
sound s = leb s.len most_stored && good_of s.clock

-- A station that stands in no row. It is what a definition names for a place past the row's end; no call comes to use it,
-- since 40 turns such a place away.
abbrev pub blank : Station
blank = record { clock = nominal_clock; bytes = replicate most_stored 0; len = 0 }
