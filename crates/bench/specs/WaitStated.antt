-- Definitions.
-- What the theorems on waiting are stated with: when a message goes out, and what its callers see of it.
use Rattle.std.specs.Prelude.{ℕ, ◌≤◌, ◌+◌, cond, true, false, List, [], ◌∷◌, ◌++◌, ◌≡◌, get_or, length, take}
use Rattle.frame.specs.declared.Response.TheVariants.{Without}
use Rattle.frame.specs.Faults.{most_bytes}
use Rattle.frame.specs.Reading.{reading, good}
use Rattle.frame.specs.Writing.{frame_sent, most_words}
use Rattle.bench.specs.declared.Fared.TheVariants.{Idle, Through}
use Rattle.bench.specs.declared.Station.{Station}
use Rattle.bench.specs.Calls.{taken, round}
use Rattle.bench.specs.Round.{verdict_of, sum_of}
use Rattle.bench.specs.Histories.{waiting, among, different_ahead, CallMade, plays, Happens, rounds_seen, loads_seen, NoTrafficSeen, ahead_in, loads, withdraws, sets_clock}
use Rattle.bench.specs.Order.{same_bits, ahead}
use Rattle.bench.specs.Promise.{RoundTold, Called, RoundPromise, called_number, told_number, said}
use Rattle.bench.specs.RoundStated.{winner_of, station_at}
use Rattle.bench.specs.Stations.{Bits, bits_sent, waiting_at}

-- the places that hold b become empty
unfoldable pub without : Bits → List Bits → List Bits
without b [] = []
without b (x ∷ xs) = cond (same_bits x b) [] x ∷ without b xs

-- the bits m wait at place s of a row
abbrev pub WaitsAt : ℕ → Bits → List Station → Type 0
WaitsAt s m row = get_or (waiting row) s [] ≡ m

-- how many different messages are ahead of m in a row
abbrev pub ahead_now : Bits → List Station → ℕ
ahead_now m row = different_ahead m (waiting row)

-- The message x goes out from place s in a round of the history, and in time.
pub record GoesOut (s : ℕ) (x : List ℕ) (row : List Station) (events : List CallMade) : Type 0 where
  pub before : List CallMade
  pub lent : List ℕ
  pub lent_exit : List ℕ
  pub answer : RoundTold
  pub later : List CallMade
  pub parts : events ≡ before ++ (plays lent lent_exit answer ∷ later)
  -- the rows at that round
  pub entry : List Station
  pub exit : List Station
  pub until : Happens row before entry
  pub keeps : RoundPromise entry exit lent lent_exit answer
  pub played : taken (round lent) entry ≡ true
  pub held : WaitsAt s (bits_sent x) entry
  pub wins : winner_of entry ≡ bits_sent x
  pub latest : rounds_seen before ≤ ahead_now (bits_sent x) row + loads_seen x before
  pub exactly : NoTrafficSeen before → rounds_seen before ≡ ahead_now (bits_sent x) row

-- A round's answer, its words and the row after it show the message x going out from place s.
pub record RoundCarries (s : ℕ) (x : List ℕ) (exit : List Station) (lent_exit : List ℕ) (a : RoundTold) : Type 0 where
  pub told : told_number a ≡ 0
  pub through : get_or (said a).verdicts s (verdict_of Idle) ≡ verdict_of Through
  -- whole and readable: x is what demand 2's reader finds in the lent words afterwards
  pub readable : (bytes_lent : ℕ) → most_bytes ≤ bytes_lent → reading lent_exit 0 bytes_lent ≡ good (frame_sent x Without [] 0 (2 + length (bits_sent x)))
  -- the line time is the sum of the words written, less the closing 300
  pub time : (said a).line_time + 300 ≡ sum_of (take (said a).words lent_exit)
  -- "No round takes more than 14,438 µs of line time"
  pub bound : (said a).line_time ≤ 14438
  -- the place is empty afterwards
  pub emptied : waiting_at (station_at exit s) ≡ []

-- The message x, loaded at place s of the row start, which became row, goes out in a round of the calls that follow, whole and
-- readable. A is `ahead_in start x`, L is counted up to that round, and so are the rounds.
pub record GoesOutInTime (s : ℕ) (x : List ℕ) (start row : List Station) (events : List CallMade) : Type 0 where
  pub out : GoesOut s x row events
  pub shown : RoundCarries s x out.exit out.lent_exit out.answer
  -- "no later than round 1 + A + L from its loading"
  pub latest : rounds_seen out.before + 1 ≤ 1 + ahead_in start x + loads_seen x out.before
  -- "with no loading or withdrawal in exactly round A + 1"
  pub exactly : NoTrafficSeen out.before → rounds_seen out.before + 1 ≡ ahead_in start x + 1

-- a round with 101 words lent
abbrev pub RoundLent : CallMade → Type 0
RoundLent (loads i m a) = ⊥
RoundLent (withdraws i a) = ⊥
RoundLent (sets_clock i c a) = ⊥
RoundLent (plays lent lent_exit a) = most_words ≤ length lent

-- rounds and nothing else
abbrev pub OnlyRounds : List CallMade → Type 0
OnlyRounds [] = Unit {0}
OnlyRounds (e ∷ events) = RoundLent e × OnlyRounds events

-- no message stands in the list twice
abbrev pub NoRepeat : List Bits → Type 0
NoRepeat [] = Unit {0}
NoRepeat (x ∷ xs) = (among x xs ≡ false) × NoRepeat xs

-- an accepted loading of a message that is ahead of x
pub data LoadAhead (x : List ℕ) : CallMade → Type 0 where
  is_load : {i : ℕ} {m : List ℕ} {a : Called} → called_number a ≡ 0 → ahead (bits_sent m) (bits_sent x) ≡ true → LoadAhead x (loads i m a)

-- the second list has those calls of the first of which something is so, in their order, and no others
pub data Picks (So : CallMade → Type 0) : List CallMade → List CallMade → Type 0 where
  none : Picks So [] []
  picked : {e : CallMade} {events those : List CallMade} → So e → Picks So events those → Picks So (e ∷ events) (e ∷ those)
  passed : {e : CallMade} {events those : List CallMade} → ¬ (So e) → Picks So events those → Picks So (e ∷ events) those
