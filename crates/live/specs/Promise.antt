-- Definitions.
-- The answers of a live reader as the papers have them: the number of each, the values that go with it, and the rules of the
-- refusals.
use Rattle.frame.specs.ReadPromise.{fault_number, Told, bare}
use Rattle.std.specs.Prelude.{List, [], ◌∷◌, ℕ, Result, Ok, Err}
use Rattle.live_answer.specs.declared.Heard.{Heard}
use Rattle.live_answer.specs.declared.Heard.TheVariants.{Nothing, Frame, Faulty}
use Rattle.live_answer.specs.declared.HearRefusal.{HearRefusal}
use Rattle.live_answer.specs.declared.HearRefusal.TheVariants.{PastPlaces, FewLentBytes}
use Rattle.live.specs.declared.Asked.{Asked}
use Rattle.live.specs.declared.Asked.TheVariants.{Quiet, Unfinished}
use Rattle.laws.specs.Meant.{Test, is_not, equals, below}
use Rattle.laws.specs.Rules.{Rule, rule}
use Rattle.frame.specs.Faults.{most_bytes}
use Rattle.live_held.specs.declared.Live.{Live}
use Rattle.live_held.specs.Held.{last_place}

-- What an interval answers, as told of a whole recording: nothing where it decides nothing, a frame or a fault; document 02's
-- 51, and document 01's 32.
abbrev pub told_by : Result Heard HearRefusal → List Told
told_by (Ok Nothing) = []
told_by (Ok (Frame lengths response opening next)) =
    record { number = 0; next = next.0; opening = opening.0; main_length = lengths.main; response_length = lengths.response; response = response } ∷ []
told_by (Ok (Faulty fault next)) = bare (fault_number fault) next.0 0 ∷ []
told_by (Err PastPlaces) = bare 51 0 0 ∷ []
told_by (Err FewLentBytes) = bare 32 0 0 ∷ []

-- the number and the values of what asking answers
abbrev pub asked_told : Asked → Told
asked_told (Quiet next) = bare 1 next.0 0
asked_told (Unfinished opening) = bare 2 opening.0 opening.0

-- the number of a refusal, and 0 for what is none
abbrev pub refusal : {A : Type 0} → Result A HearRefusal → ℕ
refusal (Ok x) = 0
refusal (Err PastPlaces) = 51
refusal (Err FewLentBytes) = 32

-- An interval is refused with 51 where there is no place for it, then with 32, "judged last on every interval".
abbrev pub hear_rules : (no_place : Test) → (lent : ℕ) → List Rule
hear_rules no_place lent = rule 51 no_place ∷ rule 32 (below lent most_bytes) ∷ []

-- "past the last" of the places: the place of an interval is the number of those before it
abbrev pub past_last : (place : ℕ) → Test
past_last place = below last_place place

-- the same as a reader says it, whatever it holds
abbrev pub says_full : Live → Test
says_full v = is_not (equals v.places.full 0)
