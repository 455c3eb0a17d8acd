-- Definitions.
-- The calls on a row: when each is turned away, and the row and the lent words afterwards. Document 01, "One can load ..,
-- withdraw .., set a clock, and run a round; what isn't named stays", and "When a call is turned away".
use Rattle.std.specs.Prelude.{ℕ, Bool, true, cond, ◌&&◌, List, [], ◌∷◌, ◌++◌, eqb, length, drop, get_or, set as put}
use Rattle.laws.specs.Meant.{Test, either, set, unset, equals, below, at_most}
use Rattle.laws.specs.Rules.{Rule, rule, first_rule}
use Rattle.symbol.specs.declared.Clock.{Clock}
use Rattle.frame.specs.Writing.{bad_clock, few_words}
use Rattle.bench.specs.declared.Station.{Station}
use Rattle.bench.specs.Stations.{most_stations, most_stored, empty, sound, blank}
use Rattle.bench.specs.Round.{round_of, emptied, after_fares}

-- A call: at which place of the row, from 0 on, and with what. A round is lent words.
pub data Call : Type 0 where
  load : (place : ℕ) → (message : List ℕ) → Call
  withdraw : (place : ℕ) → Call
  set_clock : (place : ℕ) → Clock → Call
  round : (lent : List ℕ) → Call

-- ## The rules that turn a call away; 36 and 32 are those of writing

-- 38: "row of 0 or over 32 stations"
abbrev pub row_size : (count : ℕ) → Test
row_size count = either (equals count 0) (below most_stations count)

-- every station of the row is sound, the empty ones too
unfoldable pub all_sound : List Station → Bool
all_sound [] = true
all_sound (s ∷ row) = sound s && all_sound row

-- 39: "a station in the row with a stored length over 11 or a bad clock", of whether all are sound
abbrev pub unsound_station : (sound : Bool) → Test
unsound_station sound = unset sound

-- 40: "no such station"
abbrev pub no_station : (count place : ℕ) → Test
no_station count place = at_most count place

-- 37: "message empty .., or more than 12 bytes with checks", which is more than 11 without
abbrev pub bad_message : List ℕ → Test
bad_message m = either (equals (length m) 0) (below most_stored (length m))

-- 41: "that station already holds a message"
abbrev pub holding : Station → Test
holding s = unset (empty s)

-- 42: "nothing to withdraw"
abbrev pub nothing_to_withdraw : Station → Test
nothing_to_withdraw s = set (empty s)

-- no station of the row holds a message
unfoldable pub all_empty : List Station → Bool
all_empty [] = true
all_empty (s ∷ row) = empty s && all_empty row

-- 42: "nobody waiting", of whether all are empty
abbrev pub nobody_waiting : (empty : Bool) → Test
nobody_waiting empty = set empty

-- ## Their order: "Where several apply: .. row calls 38, 39, 40, then 37 or 36 for the offered value, then 41 or 42; a round
-- 38, 39, 32, 42."

-- the row: how many stations there are, and whether all are sound
abbrev pub row_rules : (count : ℕ) → (sound : Bool) → List Rule
row_rules count sound = rule 38 (row_size count) ∷ rule 39 (unsound_station sound) ∷ []

-- and then a place of it
abbrev pub place_rules : (count : ℕ) → (sound : Bool) → (place : ℕ) → List Rule
place_rules count sound place = row_rules count sound ++ (rule 40 (no_station count place) ∷ [])

-- what loading is held to at a place that there is: the message, and then the station
abbrev pub load_rules : List ℕ → Station → List Rule
load_rules m s = rule 37 (bad_message m) ∷ rule 41 (holding s) ∷ []

-- withdrawing
abbrev pub withdraw_rules : Station → List Rule
withdraw_rules s = rule 42 (nothing_to_withdraw s) ∷ []

-- setting a clock
abbrev pub clock_rules : Clock → List Rule
clock_rules c = rule 36 (bad_clock c) ∷ []

-- a round: the row, how many words are lent, and whether all stations are empty
abbrev pub round_rules : (count : ℕ) → (sound : Bool) → (lent : ℕ) → (empty : Bool) → List Rule
round_rules count sound lent empty = row_rules count sound ++ (rule 32 (few_words lent) ∷ rule 42 (nobody_waiting empty) ∷ [])

-- all rules of a call, where there are count stations
abbrev pub rules_on : Call → (count : ℕ) → List Station → List Rule
rules_on (load i m) count row = place_rules count (all_sound row) i ++ load_rules m (get_or row i blank)
rules_on (withdraw i) count row = place_rules count (all_sound row) i ++ withdraw_rules (get_or row i blank)
rules_on (set_clock i c) count row = place_rules count (all_sound row) i ++ clock_rules c
rules_on (round lent) count row = round_rules count (all_sound row) (length lent) (all_empty row)

-- all rules of a call on a row
abbrev pub rules_for : Call → List Station → List Rule
rules_for c row = rules_on c (length row) row

-- The number that a call answers; 0 where no rule turns it away.
unfoldable pub number_of : Call → List Station → ℕ
number_of c row = first_rule (rules_for c row)

-- the call is not turned away
unfoldable pub taken : Call → List Station → Bool
taken c row = eqb (number_of c row) 0

-- ## What a call that is taken does

-- "the bytes stand first, their number is the length"
abbrev pub loaded : List ℕ → Station → Station
loaded m s = record { clock = s.clock; bytes = m ++ drop (length m) s.bytes; len = length m }

-- setting a clock changes the clock alone
abbrev pub clocked : Clock → Station → Station
clocked c s = record { clock = c; bytes = s.bytes; len = s.len }

-- the row with one station put in the place of another
abbrev pub at : ℕ → (Station → Station) → List Station → List Station
at i change row = put row i (change (get_or row i blank))

-- the row after a call that is taken
unfoldable pub done : Call → List Station → List Station
done (load i m) row = at i (loaded m) row
done (withdraw i) row = at i emptied row
done (set_clock i c) row = at i (clocked c) row
done (round lent) row = after_fares (round_of row).fares row

-- The row afterwards: a call that is turned away changes nothing.
unfoldable pub after : Call → List Station → List Station
after c row = cond (taken c row) (done c row) row

-- The lent words after a round: "words past those written are unchanged".
abbrev pub written : List ℕ → List ℕ → List ℕ
written words lent = words ++ drop (length words) lent

-- those of a round on a row; one that is turned away writes none
unfoldable pub lent_after : List Station → List ℕ → List ℕ
lent_after row lent = cond (taken (round lent) row) (written (round_of row).words lent) lent
