-- Definitions.
-- Histories of calls on a row as their callers see them: calls with their answers, each of which keeps its promise, and what
-- demand 3 counts in them, by the answers alone. Of "a row changed only by these calls", rounds are counted "from the
-- loading".
use Rattle.std.specs.Prelude.{ℕ, ◌+◌, ◌≡◌, Bool, false, cond, not, ◌&&◌, ◌||◌, List, [], ◌∷◌, map, eqb}
use Rattle.symbol.specs.declared.Clock.{Clock}
use Rattle.bench.specs.declared.Station.{Station}
use Rattle.bench.specs.Stations.{Bits, bits_sent, waiting_at}
use Rattle.bench.specs.Order.{ahead, same_bits}
use Rattle.bench.specs.Calls.{Call, load, withdraw, set_clock, round}
use Rattle.bench.specs.Promise.{RoundTold, Called, called_number, told_number, LoadPromise, WithdrawPromise, ClockPromise, RoundPromise}

-- ## A: "the different messages ahead of it when it was loaded"

-- the bits that wait at each place of a row: none at an empty one
unfoldable pub waiting : List Station → List Bits
waiting row = map waiting_at row

-- whether m is one of the messages
unfoldable pub among : Bits → List Bits → Bool
among m [] = false
among m (x ∷ xs) = same_bits m x || among m xs

-- How many different ones are ahead of m: of equal ones the last is counted.
unfoldable pub different_ahead : Bits → List Bits → ℕ
different_ahead m [] = 0
different_ahead m (x ∷ xs) = cond (ahead x m && not (among x xs)) 1 0 + different_ahead m xs

-- A, for a message m and the row that it is loaded into
abbrev pub ahead_in : List Station → List ℕ → ℕ
ahead_in row m = different_ahead (bits_sent m) (waiting row)

-- ## Calls with their answers

-- A call that was made, with its answer; of a round also the lent words before and after.
pub data CallMade : Type 0 where
  loads : (place : ℕ) → (message : List ℕ) → Called → CallMade
  withdraws : (place : ℕ) → Called → CallMade
  sets_clock : (place : ℕ) → Clock → Called → CallMade
  plays : (lent_entry lent_exit : List ℕ) → RoundTold → CallMade

-- the call itself
abbrev pub call_of : CallMade → Call
call_of (loads i m a) = load i m
call_of (withdraws i a) = withdraw i
call_of (sets_clock i c a) = set_clock i c
call_of (plays lent_entry lent_exit a) = round lent_entry

-- the call kept its promise, on a row from entry to exit
abbrev pub Keeps : CallMade → List Station → List Station → Type 0
Keeps (loads i m a) entry exit = LoadPromise i m entry exit a
Keeps (withdraws i a) entry exit = WithdrawPromise i entry exit a
Keeps (sets_clock i c a) entry exit = ClockPromise i c entry exit a
Keeps (plays lent_entry lent_exit a) entry exit = RoundPromise entry exit lent_entry lent_exit a

-- "a row changed only by these calls, each lent the whole of it": each call finds the row as the one before it left it.
pub data Happens : List Station → List CallMade → List Station → Type 0 where
  nothing : {row : List Station} → Happens row [] row
  then : {entry middle exit : List Station} {e : CallMade} {events : List CallMade} → Keeps e entry middle → Happens middle events exit
      → Happens entry (e ∷ events) exit

-- the number that was answered; 0 where the call was not turned away
abbrev pub answered : CallMade → ℕ
answered (loads i m a) = called_number a
answered (withdraws i a) = called_number a
answered (sets_clock i c a) = called_number a
answered (plays lent_entry lent_exit a) = told_number a

-- the call was not turned away
abbrev pub accepted : CallMade → Bool
accepted e = eqb (answered e) 0

-- ## L: "the loadings ahead of it accepted since", and the rounds

-- rounds: "A round turned away is no round"
abbrev pub round_seen : CallMade → ℕ
round_seen (loads i m a) = 0
round_seen (withdraws i a) = 0
round_seen (sets_clock i c a) = 0
round_seen (plays lent_entry lent_exit a) = cond (eqb (told_number a) 0) 1 0

-- the rounds that were played
unfoldable pub rounds_seen : List CallMade → ℕ
rounds_seen [] = 0
rounds_seen (e ∷ events) = round_seen e + rounds_seen events

-- an accepted loading ahead of m
abbrev pub load_seen : Bits → CallMade → ℕ
load_seen m (loads i x a) = cond (eqb (called_number a) 0 && ahead (bits_sent x) m) 1 0
load_seen m (withdraws i a) = 0
load_seen m (sets_clock i c a) = 0
load_seen m (plays lent_entry lent_exit a) = 0

-- L, for the message x
unfoldable pub loads_seen : List ℕ → List CallMade → ℕ
loads_seen x [] = 0
loads_seen x (e ∷ events) = load_seen (bits_sent x) e + loads_seen x events

-- ## What disturbs a wait

-- an accepted withdrawal from place s
abbrev pub withdrawal_seen : ℕ → CallMade → Bool
withdrawal_seen s (loads i x a) = false
withdrawal_seen s (withdraws i a) = eqb s i && eqb (called_number a) 0
withdrawal_seen s (sets_clock i c a) = false
withdrawal_seen s (plays lent_entry lent_exit a) = false

-- no withdrawal from place s was accepted
abbrev pub NoWithdrawalSeen : ℕ → List CallMade → Type 0
NoWithdrawalSeen s [] = Unit {0}
NoWithdrawalSeen s (e ∷ events) = (withdrawal_seen s e ≡ false) × NoWithdrawalSeen s events

-- an accepted loading or withdrawal
abbrev pub traffic_seen : CallMade → Bool
traffic_seen (loads i x a) = eqb (called_number a) 0
traffic_seen (withdraws i a) = eqb (called_number a) 0
traffic_seen (sets_clock i c a) = false
traffic_seen (plays lent_entry lent_exit a) = false

-- no loading and no withdrawal was accepted
abbrev pub NoTrafficSeen : List CallMade → Type 0
NoTrafficSeen [] = Unit {0}
NoTrafficSeen (e ∷ events) = (traffic_seen e ≡ false) × NoTrafficSeen events
