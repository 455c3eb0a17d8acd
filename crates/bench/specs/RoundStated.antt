-- Definitions.
-- What the theorems on a round are stated with: who wins, how each place fares, and what stands on the line.
use Rattle.std.specs.Prelude.{ℕ, suc, ◌≤◌, ◌+◌, ◌<◌, Bool, true, ◌&&◌, cond, not, false, List, [], ◌∷◌, map, ◌++◌, ◌⊎◌, ◌≢◌, ◌↔◌, ◌≡◌, length, get_or, take}
use Rattle.std.specs.Bool.{beq}
use Rattle.symbol.specs.Clocks.{Start}
use Rattle.symbol.specs.Sending.{SendingWindow, bit_symbol}
use Rattle.checkbyte.specs.Register.{Bytes}
use Rattle.frame.specs.Writing.{most_words}
use Rattle.bench.specs.declared.Fared.{Fared}
use Rattle.bench.specs.declared.Fared.TheVariants.{Through, Lost, Idle}
use Rattle.bench.specs.declared.Station.{Station}
use Rattle.bench.specs.Calls.{all_sound}
use Rattle.bench.specs.Round.{Entry, absent, enters, seat_of, Round, sum_of, round_of, verdict_of, after_fare}
use Rattle.bench.specs.Histories.{waiting}
use Rattle.bench.specs.Order.{ahead, Ahead}
use Rattle.bench.specs.Promise.{RoundTold, said, turned_away}
use Rattle.bench.specs.Course.{Pulse, Seat, out, on, Course, fared_at, asked, most_bits}
use Rattle.bench.specs.Stations.{Bits, blank, most_stations, empty, waiting_at, most_stored}

-- the width w is one of those asked for
abbrev pub OneOf : ℕ → List ℕ → Type 0
OneOf w [] = ⊥
OneOf w (v ∷ ws) = (w ≡ v) ⊎ OneOf w ws

-- each pulse asks for a width in the sending window of its bit
abbrev pub InWindows : Bool → List Pulse → Type 0
InWindows active [] = Unit {0}
InWindows active (p ∷ ps) = SendingWindow active (bit_symbol p.bit) p.width × InWindows active ps

-- nobody sends a 0
abbrev pub only_ones : List Pulse → Bool
only_ones [] = true
only_ones (p ∷ ps) = p.bit && only_ones ps

-- the one that is ahead, of two
unfoldable pub first_of : Bits → Bits → Bits
first_of x y = cond (ahead x y) x y

-- the first of messages; no bits where there are none, or where no place has any
unfoldable pub first : List Bits → Bits
first [] = []
first (x ∷ xs) = first_of x (first xs)

-- the bits alone
abbrev pub bits_in : List Pulse → Bits
bits_in ps = map (λ (p : Pulse). p.bit) ps

-- what a place still has to send
abbrev pub bits_at : Seat → Bits
bits_at (out f) = []
bits_at (on ps) = bits_in ps

-- the first of what the places have to send
abbrev pub first_at : List Seat → Bits
first_at seats = first (map bits_at seats)

-- Widths that carry bits, from a level on: each lies in the sending window of its bit at its level.
pub data Carried : Bool → Bits → List ℕ → Type 0 where
  none : {active : Bool} → Carried active [] []
  next : {active b : Bool} {w : ℕ} {bits : Bits} {ws : List ℕ} → SendingWindow active (bit_symbol b) w → Carried (not active) bits ws
      → Carried active (b ∷ bits) (w ∷ ws)

-- what a place asks for, now and later, lies in the sending windows
abbrev pub Fair : Bool → List Pulse → Type 0
Fair active [] = Unit {0}
Fair active (p ∷ ps) = SendingWindow active (bit_symbol p.bit) p.width × Fair (not active) ps

-- the same of a place ..
abbrev pub FairAt : Bool → Seat → Type 0
FairAt active (out f) = Unit {0}
FairAt active (on ps) = Fair active ps

-- .. and of all places
abbrev pub FairAll : Bool → List Seat → Type 0
FairAll active [] = Unit {0}
FairAll active (s ∷ seats) = FairAt active s × FairAll active seats

-- how a message m fares against the first message w, from bit k on: it stops where the two differ
unfoldable pub against : ℕ → Bits → Bits → Fared
against k [] m = Through
against k (b ∷ w) [] = Lost k
against k (b ∷ w) (c ∷ m) = cond (beq c b) (against (suc k) w m) (Lost k)

-- how a place fares against the first message
abbrev pub fare_of : ℕ → Bits → Seat → Fared
fare_of k w (out f) = f
fare_of k w (on ps) = against k w (bits_in ps)

-- What the bits of a round come to, from bit k on.
pub record Runs (k : ℕ) (active : Bool) (seats : List Seat) (c : Course) : Type 0 where
  -- the line carries the first message's bits
  pub line : Carried active (first_at seats) c.widths
  -- each place fares as its bits do against that message
  pub fares : map fared_at c.seats ≡ map (fare_of k (first_at seats)) seats
  -- "every remaining station has sent its check byte"
  pub finished : asked c.seats ≡ []

-- an entry keeps the rules where its SOF and its pulses lie in the sending windows, and it has at most 96 bits
abbrev pub EntryInWindows : Entry → Type 0
EntryInWindows absent = Unit {0}
EntryInWindows (enters sof pulses) = Start sof × Fair false pulses × (length (bits_in pulses) ≤ most_bits)

-- each of the entries keeps them
abbrev pub EntriesInWindows : List Entry → Type 0
EntriesInWindows [] = Unit {0}
EntriesInWindows (e ∷ entries) = EntryInWindows e × EntriesInWindows entries

-- the bits that go out: the first of the entries' bits
abbrev pub goes_out : List Entry → Bits
goes_out entries = first_at (map seat_of entries)

-- What a round comes to in which the bits w go out.
pub record RoundCase (entries : List Entry) (r : Round) : Type 0 where
  pub sof : ℕ
  pub widths : List ℕ
  -- opening, SOF, a width for each bit, closing
  pub words : r.words ≡ 300 ∷ sof ∷ (widths ++ (300 ∷ []))
  pub sof_window : goes_out entries ≢ [] → Start sof
  pub line : Carried false (goes_out entries) widths
  pub few : length r.words ≤ most_words
  pub fares : r.fares ≡ map (fare_of 1 (goes_out entries)) (map seat_of entries)
  -- line time is the sum of the words less the closing 300
  pub time : r.line_time + 300 ≡ sum_of r.words
  pub bound : r.line_time ≤ 14438

-- the first of the messages that wait in the row
abbrev pub winner_of : List Station → Bits
winner_of row = first (waiting row)

-- Bit k, counted from 1, is the first at which the bits m part from the winner's bits w.
pub data FirstDifference (w m : Bits) : ℕ → Type 0 where
  -- both have a bit there, and not the same
  other_bit : (same ws ms : Bits) (b c : Bool) → b ≢ c → w ≡ same ++ (b ∷ ws) → m ≡ same ++ (c ∷ ms) → FirstDifference w m (suc (length same))
  -- it is one past the last bit of m, and w goes on
  past_last : (b : Bool) (ws : Bits) → w ≡ m ++ (b ∷ ws) → FirstDifference w m (suc (length m))

-- the station at a place
abbrev pub station_at : List Station → ℕ → Station
station_at row i = get_or row i blank

-- what every call that is taken has passed: 38 and 39
pub record RowPassed (row : List Station) : Type 0 where
  pub some : 1 ≤ length row
  pub few : length row ≤ most_stations
  pub sound : all_sound row ≡ true

-- how a place fared in the round on a row; idle past the row
abbrev pub fare_at : List Station → ℕ → Fared
fare_at row i = get_or (round_of row).fares i Idle

-- The station at place i has changed as told, and no other.
pub record OnlyAt (i : ℕ) (change : Station → Station) (entry exit : List Station) : Type 0 where
  pub there : i < length entry
  pub changed : station_at exit i ≡ change (station_at entry i)
  pub others : (j : ℕ) → j ≢ i → station_at exit j ≡ station_at entry j
  pub size : length exit ≡ length entry

-- The bits w win the round on a row.
pub record Wins (row : List Station) (w : Bits) : Type 0 where
  -- a station holds them
  pub holder : ℕ
  pub holds : empty (station_at row holder) ≡ false
  pub its_bits : waiting_at (station_at row holder) ≡ w
  -- they are ahead of all others that wait
  pub leads : (i : ℕ) → empty (station_at row i) ≡ false → waiting_at (station_at row i) ≢ w → Ahead w (waiting_at (station_at row i))
  -- exactly the places that hold them get through, and exactly the empty ones are idle
  pub through : (i : ℕ) → (fare_at row i ≡ Through) ↔ (waiting_at (station_at row i) ≡ w)
  pub idle : (i : ℕ) → (fare_at row i ≡ Idle) ↔ (empty (station_at row i) ≡ true)

-- What stands on the line in the round on a row.
pub record OnTheLine (row : List Station) : Type 0 where
  pub sof : ℕ
  pub widths : List ℕ
  -- the opening, the SOF, a width for each bit, the closing end
  pub words : (round_of row).words ≡ 300 ∷ sof ∷ (widths ++ (300 ∷ []))
  pub sof_window : Start sof
  pub line : Carried false (winner_of row) widths
  -- "A frame takes at most 101 words"
  pub number : length (round_of row).words ≡ 3 + length (winner_of row)
  pub few : length (round_of row).words ≤ most_words
  -- "all intervals but the closing 300", and "The bound: 300 + 218 + 96 × 145 = 14,438."
  pub time : (round_of row).line_time + 300 ≡ sum_of (round_of row).words
  pub bound : (round_of row).line_time ≤ 14438

-- a station as it stands in memory: eleven stored bytes
pub record InMemory (s : Station) : Type 0 where
  pub eleven : length s.bytes ≡ most_stored
  pub bytes : Bytes s.bytes

-- A round that is turned away says so and nothing else, and leaves the row and the words as they were.
pub record AsItWas (n : ℕ) (entry exit : List Station) (lent_entry lent_exit : List ℕ) (a : RoundTold) : Type 0 where
  pub row : exit ≡ entry
  pub words : lent_exit ≡ lent_entry
  pub answer : said a ≡ turned_away n

-- how an answer says that a place fared
abbrev pub told_fare : RoundTold → ℕ → Fared
told_fare a i = (get_or (said a).verdicts i (verdict_of Idle)).fared

-- What the answer, the row and the words of a played round show.
pub record RoundShown (entry exit : List Station) (lent_exit : List ℕ) (a : RoundTold) : Type 0 where
  -- the first of the messages that wait wins
  pub wins : Wins entry (winner_of entry)
  -- 32 verdicts: exactly the winner's holders are through, exactly the empty places are idle, every other one has lost at the
  -- first difference from the winner
  pub places : length (said a).verdicts ≡ most_stations
  pub through : (i : ℕ) → (told_fare a i ≡ Through) ↔ (waiting_at (station_at entry i) ≡ winner_of entry)
  pub idle : (i : ℕ) → (told_fare a i ≡ Idle) ↔ (empty (station_at entry i) ≡ true)
  pub lost : (i k : ℕ)
      → (told_fare a i ≡ Lost k) ↔ ((empty (station_at entry i) ≡ false) × FirstDifference (winner_of entry) (waiting_at (station_at entry i)) k)
  -- every station afterwards: "Holders that got through become empty, length 0; every other field stays."
  pub stations : (i : ℕ) → station_at exit i ≡ after_fare (told_fare a i) (station_at entry i)
  pub size : length exit ≡ length entry
  -- the words written stand first and are the line of the round
  pub sof : ℕ
  pub widths : List ℕ
  pub words : take (said a).words lent_exit ≡ 300 ∷ sof ∷ (widths ++ (300 ∷ []))
  pub sof_window : Start sof
  pub line : Carried false (winner_of entry) widths
  pub number : (said a).words ≡ 3 + length (winner_of entry)
  pub few : (said a).words ≤ most_words
  -- the line time is their sum, less the closing 300
  pub time : (said a).line_time + 300 ≡ sum_of (take (said a).words lent_exit)
  pub bound : (said a).line_time ≤ 14438
