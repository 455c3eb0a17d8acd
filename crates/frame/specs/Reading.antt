-- Definitions.
-- What reading answers, in document 01's words. Nothing here goes through a recording but the search for a first place.
use Rattle.std.specs.Prelude.{ℕ, ◌+◌, Bool, cond, not, ◌||◌, List, [], ◌∷◌, eqb, leb}
use Rattle.laws.specs.Meant.{below}
use Rattle.laws.specs.Rules.{Rule, rule, first_rule}
use Rattle.frame.specs.declared.Response.{Response}
use Rattle.frame.specs.Line.{Line, single, end_at, Found, nowhere, at, first_in, opening}
use Rattle.frame.specs.Standing.{Standing, counted, stands}
use Rattle.frame.specs.Faults.{facts, main_bytes, response_bytes, most_bytes, fault}

-- A good frame: its parts with their checks, how it was answered, its opening, and its closing end, from which reading goes on.
pub record Good : Type 0 where
  pub main : List ℕ
  pub response : List ℕ
  pub kind : Response
  pub opening : ℕ
  pub next : ℕ

-- An outcome, by the rows of the table "What reading answers" and of "When a call is turned away".
pub data Outcome : Type 0 where
  good : Good → Outcome
  quiet : (next : ℕ) → Outcome
  unfinished : (opening : ℕ) → Outcome
  faulty : (number next : ℕ) → Outcome
  refused : (number : ℕ) → Outcome

-- the frame with these parts that opens at o and closes at k
abbrev pub closed : Standing → (o k : ℕ) → Good
closed st o k = record { main = main_bytes st; response = response_bytes st; kind = (facts st).answered; opening = o; next = k }

module _ (limit : ℕ) (l : Line) (o : ℕ) where
  -- the fault of the interval at k in the frame that opens at o
  abbrev pub fault_at : ℕ → ℕ
  fault_at k = fault limit (stands l o k) (l.shows k)

  -- An interval decides the frame where it is at fault, and where it is an end: an end that is not at fault closes the frame.
  unfoldable pub decides : ℕ → Bool
  decides k = not (eqb (fault_at k) 0) || end_at l k

-- the frame that the interval at k closes
abbrev pub frame_at : Line → (o k : ℕ) → Good
frame_at l o k = closed (counted (stands l o k) (l.shows k)) o k

-- "The earliest interval with a fault decides": rows 2, 11 to 20, and 0.
abbrev pub decided_by : Found → (limit : ℕ) → Line → ℕ → Outcome
decided_by nowhere limit l o = unfinished o
decided_by (at k) limit l o = cond (eqb (fault_at limit l o k) 0) (good (frame_at l o k)) (faulty (fault_at limit l o k) k)

-- what the frame that opens at o is decided to be: its earliest interval that decides is looked for after the opening
abbrev pub decided : (limit : ℕ) → Line → ℕ → Outcome
decided limit l o = decided_by (first_in (decides limit l o) (o + 1) l.count) limit l o

-- "quiet: no opening, or no interval after it"
abbrev pub read_by : Found → (limit : ℕ) → Line → ℕ → Outcome
read_by nowhere limit l p = quiet p
read_by (at o) limit l p = cond (leb l.count (o + 1)) (quiet p) (decided limit l o)

-- "Where several apply: reading 31, 32": the position p, and so many bytes lent
abbrev pub read_rules : (limit : ℕ) → Line → (p lent : ℕ) → List Rule
read_rules limit l p lent = rule 31 (below l.count p) ∷ rule 32 (below lent limit) ∷ []

-- what a call comes to, by the number of the first rule that holds: what is read where none does
abbrev pub outcome_by : ℕ → Outcome → Outcome
outcome_by number read = cond (eqb number 0) read (refused number)

-- Reading a line from position p, where a frame has at most `limit` bytes, with so many bytes lent.
unfoldable pub read_on : (limit : ℕ) → Line → (p lent : ℕ) → Outcome
read_on limit l p lent = outcome_by (first_rule (read_rules limit l p lent)) (read_by (opening l p) limit l p)

-- Reading the intervals ws of document 01.
abbrev pub reading : List ℕ → (p lent : ℕ) → Outcome
reading ws p lent = read_on most_bytes (single ws) p lent
