-- Machinery.
-- The calls at a place of a row by value: the number of the first rule that turns the call away, and the held row after it.
use Rattle.std.specs.Prelude.{ℕ, ◌≡◌, ◌⊎◌, List, Result, Ok, Err, get_or, set}
use Rattle.laws.specs.Rules.{first_rule}
use Rattle.symbol.specs.declared.Clock.{Clock}
use Rattle.bench.specs.declared.Station.{Station}
use Rattle.bench.specs.declared.CallRefusal.{CallRefusal}
use Rattle.bench.specs.Stations.{blank}
use Rattle.bench.specs.Round.{emptied}
use Rattle.bench.specs.Calls.{Call, all_sound, place_rules, load_rules, withdraw_rules, clock_rules, rules_on, loaded, clocked}
use Rattle.bench.specs.Promise.{Called, called_number}
use Rattle.bench_row.specs.declared.HeldRow.{HeldRow}

-- the station at a place
abbrev pub station_of : HeldRow → ℕ → Station
station_of b i = get_or b.at i blank

-- the held row with a station at a place; a place past the 32nd is not kept
unfoldable pub with_of : HeldRow → ℕ → Station → HeldRow
with_of b i s = record { at = set b.at i s; count = b.count }

-- What a call, or its change of a station, comes to: the next row or station where the number is 0, and else the refusal of that
-- number.
abbrev pub ChangedBy : {A : Type 0} → (number : ℕ) → (next : A) → Result A CallRefusal → Type 0
ChangedBy number next (Ok x) = (number ≡ 0) × (x ≡ next)
ChangedBy number next (Err e) = called_number (Err e) ≡ number

-- the number of the first rule that turns a call away
abbrev pub call_number : Call → HeldRow → ℕ
call_number c b = first_rule (rules_on c b.count b.at)

-- that of 38, 39 and 40, which every call at a place is held to first
unfoldable pub row_number : HeldRow → ℕ → ℕ
row_number b i = first_rule (place_rules b.count (all_sound b.at) i)

-- What a call at a place comes to, by what its change of the station there may give: the first rules turn it away, or the change
-- does, or the changed station stands at the place.
unfoldable pub ChangedAt : (Gives : Result Station CallRefusal → Type 0) → HeldRow → ℕ → Result HeldRow CallRefusal → Type 0
ChangedAt Gives b i (Ok next) = (row_number b i ≡ 0) × Gives (Ok (station_of next i)) × (next ≡ with_of b i (station_of next i))
ChangedAt Gives b i (Err e) = (called_number (Err e) ≡ row_number b i) ⊎ ((row_number b i ≡ 0) × Gives (Err e))

-- what the caller is told of a call, and the held row that it has afterwards: its own where the call was turned away
abbrev pub called_in : Result HeldRow CallRefusal → Called
called_in (Ok next) = Ok tt
called_in (Err e) = Err e

-- the held row
abbrev pub held_after : HeldRow → Result HeldRow CallRefusal → HeldRow
held_after b (Ok next) = next
held_after b (Err e) = b

-- ## Loading

-- that of the later rules of loading, at the station of the place
abbrev pub load_number : List ℕ → Station → ℕ
load_number m s = first_rule (load_rules m s)

-- the held row with the message loaded
abbrev pub loaded_row : HeldRow → ℕ → List ℕ → HeldRow
loaded_row b i m = with_of b i (loaded m (station_of b i))

-- ## Withdrawing

-- that of the later rules of withdrawing
abbrev pub withdraw_number : Station → ℕ
withdraw_number s = first_rule (withdraw_rules s)

-- the held row with the message withdrawn
abbrev pub withdrawn_row : HeldRow → ℕ → HeldRow
withdrawn_row b i = with_of b i (emptied (station_of b i))

-- ## Setting a clock

-- that of the later rules of setting a clock
abbrev pub clock_number : Clock → ℕ
clock_number c = first_rule (clock_rules c)

-- the held row with the clock set
abbrev pub clocked_row : HeldRow → ℕ → Clock → HeldRow
clocked_row b i c = with_of b i (clocked c (station_of b i))
