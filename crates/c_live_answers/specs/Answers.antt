-- Definitions.
-- What the exported calls on a live reader give: its answers with the documents' number first.
use Rattle.std.specs.Prelude.{ℕ, List, [], ◌∷◌, Result}
use Rattle.frame.specs.ReadPromise.{Told}
use Rattle.live_answer.specs.declared.Heard.{Heard}
use Rattle.live_answer.specs.declared.HearRefusal.{HearRefusal}
use Rattle.live.specs.declared.Asked.{Asked}
use Rattle.live.specs.Promise.{told_by, asked_told}
use Rattle.c_live_answers.specs.declared.HeardAnswer.{HeardAnswer}
use Rattle.c_live_answers.specs.declared.AskedAnswer.{AskedAnswer}
use Rattle.frame_numbers.specs.Numbers.{kind_number}

-- an interval that closes no frame
abbrev pub heard_bare : (number next : ℕ) → HeardAnswer
heard_bare number next = record { number = number; kind = 0; next = next; opening = 0; main = 0; response = 0 }

-- An interval, by the papers' number and values of its answer. Neither paper has a number for an interval that decides nothing
-- yet: 63, the library's own.
abbrev pub heard_told : List Told → HeardAnswer
heard_told [] = heard_bare 63 0
heard_told (t ∷ ts) =
    record { number = t.number; kind = kind_number t.response; next = t.next; opening = t.opening; main = t.main_length; response = t.response_length }

-- the answer of an interval
abbrev pub heard_as : Result Heard HearRefusal → HeardAnswer
heard_as h = heard_told (told_by h)

-- asking, by the papers' number and values: 1 and the position from which reading goes on, or 2 and the opening
abbrev pub asked_as : Asked → AskedAnswer
asked_as a = record { number = (asked_told a).number; next = (asked_told a).next; opening = (asked_told a).opening }
