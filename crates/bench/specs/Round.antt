-- Definitions.
-- A round on a row of stations: what each brings to it, and the words, the verdicts and the line time that come of it.
use Rattle.std.specs.Prelude.{ℕ, ◌+◌, ◌-◌, Bool, false, cond, not, List, [], ◌∷◌, ◌++◌, map, length, replicate}
use Rattle.symbol.specs.declared.Clock.{Clock}
use Rattle.symbol.specs.Sending.{bit_width, end_width}
use Rattle.bench.specs.declared.Station.{Station}
use Rattle.bench.specs.declared.Fared.{Fared}
use Rattle.bench.specs.declared.Fared.TheVariants.{Idle, Through, Lost}
use Rattle.bench.specs.declared.Verdict.{Verdict}
use Rattle.bench.specs.Stations.{most_stations, Bits, bits_sent, stored, empty}
use Rattle.bench.specs.Course.{Pulse, Seat, out, on, longest, Course, most_bits, play, fared_at}

-- ## What a station brings

-- An empty station takes no part. A holder asks for a SOF, and for a pulse for each of its bits.
pub data Entry : Type 0 where
  absent : Entry
  enters : (sof : ℕ) → (pulses : List Pulse) → Entry

-- the bits at the widths of a clock, from a level on: the level turns at each
unfoldable pub pulses_of : Clock → Bool → Bits → List Pulse
pulses_of c active [] = []
pulses_of c active (b ∷ bits) = record { bit = b; width = (bit_width c active b).0 } ∷ pulses_of c (not active) bits

-- a holder's entry: after the SOF, which is active, the first bit is passive
abbrev pub holder : Clock → List ℕ → Entry
holder c m = enters c.sof.0 (pulses_of c false (bits_sent m))

-- what a station brings to a round
abbrev pub entry_of : Station → Entry
entry_of s = cond (empty s) absent (holder s.clock (stored s))

-- ## The round

-- "In a round all holders begin the SOF together."
abbrev pub sof_asks : Entry → List ℕ
sof_asks absent = []
sof_asks (enters sof pulses) = sof ∷ []

-- the SOF that each holder asks for
unfoldable pub sofs_asked : List Entry → List ℕ
sofs_asked [] = []
sofs_asked (e ∷ entries) = sof_asks e ++ sofs_asked entries

-- the places as the first bit begins
abbrev pub seat_of : Entry → Seat
seat_of absent = out Idle
seat_of (enters sof pulses) = on pulses

-- all widths together
unfoldable pub sum_of : List ℕ → ℕ
sum_of [] = 0
sum_of (w ∷ ws) = w + sum_of ws

-- What comes of a round: its words, how each place of the row fared, and the line time.
pub record Round : Type 0 where
  pub words : List ℕ
  pub fares : List Fared
  pub line_time : ℕ

-- "Opening and closing are 300"; line time is "all intervals but the closing 300".
abbrev pub told : ℕ → Course → Round
told sof c = record {
  words = end_width.0 ∷ sof ∷ (c.widths ++ (end_width.0 ∷ []));
  fares = map fared_at c.seats;
  line_time = sum_of (end_width.0 ∷ sof ∷ c.widths);
}

-- The SOF lasts as long as "the longest" that a holder asks for. Bits are "counted from 1 after the SOF".
unfoldable pub round_among : List Entry → Round
round_among entries = told (longest (sofs_asked entries)) (play most_bits false 1 (map seat_of entries))

-- the round on a row of stations
unfoldable pub round_of : List Station → Round
round_of row = round_among (map entry_of row)

-- ## The verdicts, and the row afterwards

-- a verdict that says how a place fared
abbrev pub verdict_of : Fared → Verdict
verdict_of f = record { fared = f }

-- "for each of 32 places (idle past the row)"
abbrev pub verdicts_of : List Fared → List Verdict
verdicts_of fares = map verdict_of fares ++ replicate (most_stations - length fares) (verdict_of Idle)

-- an empty station keeps its clock and its bytes: the length alone is 0
abbrev pub emptied : Station → Station
emptied s = record { clock = s.clock; bytes = s.bytes; len = 0 }

-- "Holders that got through become empty, length 0; every other field stays."
abbrev pub after_fare : Fared → Station → Station
after_fare Idle s = s
after_fare Through s = emptied s
after_fare (Lost k) s = s

-- the row after a round, station for station
unfoldable pub after_fares : List Fared → List Station → List Station
after_fares [] row = row
after_fares (f ∷ fares) [] = []
after_fares (f ∷ fares) (s ∷ row) = after_fare f s ∷ after_fares fares row
