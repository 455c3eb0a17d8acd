-- Definitions.
-- What intervals show as they come, one after the other and in deliveries, and what reading shows: each answer, and the bytes
-- that it tells of.
use Rattle.std.specs.Prelude.{ℕ, ◌+◌, ◌≤◌, List, [], ◌∷◌, ◌++◌, map, length, take, Bool, cond, eqb}
use Rattle.frame.specs.Faults.{most_bytes}
use Rattle.frame.specs.Reading.{Outcome}
use Rattle.frame.specs.ReadPromise.{Told, tells, written}
use Rattle.live_held.specs.declared.Live.{Live}
use Rattle.live.specs.Feeding.{fed_of, lent_of, asked_of, started}
use Rattle.live.specs.Promise.{told_by, asked_told, refusal}
use Rattle.live.specs.Hearing.{ToldSoFar, Takes}
use Rattle.frame.specs.Line.{single}

-- ## Intervals one after the other

-- one interval as it comes: its width, and the bytes that are lent for it
pub record Delivered : Type 0 where
  pub width : ℕ
  pub lent : List ℕ

-- the recording that intervals make up
abbrev pub recording : List Delivered → List ℕ
recording is = map (λ (i : Delivered). i.width) is

-- bytes enough are lent for each
pub data Enough : List Delivered → Type 0 where
  none : Enough []
  also : {i : Delivered} {is : List Delivered} → most_bytes ≤ length i.lent → Enough is → Enough (i ∷ is)

-- an answer, and the bytes that it tells of
pub record Shown : Type 0 where
  pub told : Told
  pub bytes : List ℕ

-- the reader after an interval
abbrev pub after_one : Live → Delivered → Live
after_one v i = (fed_of v i.width (length i.lent)).live

-- after several, in turn
abbrev pub after_all : Live → List Delivered → Live
after_all v [] = v
after_all v (i ∷ is) = after_all (after_one v i) is

-- what an answer shows: as many of the lent bytes, from the first on, as it tells of
abbrev pub shown : (exit : List ℕ) → Told → Shown
shown exit t = record { told = t; bytes = take (t.main_length + t.response_length) exit }

-- what an interval shows
abbrev pub shows_one : Live → Delivered → List Shown
shows_one v i = map (shown (lent_of v i.width i.lent)) (told_by (fed_of v i.width (length i.lent)).heard)

-- what some show, one after the other
abbrev pub shows_all : Live → List Delivered → List Shown
shows_all v [] = []
shows_all v (i ∷ is) = shows_one v i ++ shows_all (after_one v i) is

-- what reading shows: its answer, and the bytes that it writes
abbrev pub reads : Outcome → Shown
reads x = record { told = tells x; bytes = written x }

-- what asking shows: no bytes
abbrev pub shows_asked : Live → Shown
shows_asked v = record { told = asked_told (asked_of v); bytes = [] }

-- ## Deliveries

-- all intervals of some deliveries
abbrev pub joined : List (List Delivered) → List Delivered
joined [] = []
joined (d ∷ ds) = d ++ joined ds

-- what deliveries show, one after the other
abbrev pub shows_in : Live → List (List Delivered) → List Shown
shows_in v [] = []
shows_in v (d ∷ ds) = shows_all v d ++ shows_in (after_all v d) ds

-- the reader after them
abbrev pub after_in : Live → List (List Delivered) → Live
after_in v [] = v
after_in v (d ∷ ds) = after_in (after_all v d) ds

-- the recording with one interval more
abbrev pub on : List ℕ → ℕ → List ℕ
on ws w = ws ++ (w ∷ [])

-- what a reader that has heard some intervals does with the next
pub record Next (is : List Delivered) (i : Delivered) : Type 0 where
  pub told_before : List Outcome
  pub reached : ToldSoFar (single (recording is)) (after_all started is).places.from told_before
  pub takes : Takes (single (recording is)) (single (recording is ++ (i.width ∷ []))) told_before i.lent (lent_of (after_all started is) i.width i.lent) (fed_of (after_all started is) i.width (length i.lent))

-- a call on a reader
pub data LiveCall : Type 0 where
  hearing : Delivered → LiveCall
  asking : LiveCall

-- the reader after a call
abbrev pub after_call : Live → LiveCall → Live
after_call v (hearing i) = after_one v i
after_call v asking = v

-- after several, in turn
abbrev pub after_calls : Live → List LiveCall → Live
after_calls v [] = v
after_calls v (c ∷ cs) = after_calls (after_call v c) cs

-- the interval is not refused
abbrev pub is_taken : Live → Delivered → Bool
is_taken v i = eqb (refusal (fed_of v i.width (length i.lent)).heard) 0

-- the intervals of a history that are not refused
abbrev pub taken_in : Live → List LiveCall → List Delivered
taken_in v [] = []
taken_in v (asking ∷ cs) = taken_in v cs
taken_in v (hearing i ∷ cs) = cond (is_taken v i) (i ∷ taken_in (after_one v i) cs) (taken_in v cs)

-- what the calls of a history show as they come; an interval that is refused tells nothing of the line
abbrev pub shows_calls : Live → List LiveCall → List Shown
shows_calls v [] = []
shows_calls v (asking ∷ cs) = shows_calls v cs
shows_calls v (hearing i ∷ cs) = cond (is_taken v i) (shows_one v i) [] ++ shows_calls (after_one v i) cs
