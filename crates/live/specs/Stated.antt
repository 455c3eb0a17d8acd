-- Definitions.
-- What the theorems on when a live reader gives which answer are stated with.
use Rattle.std.specs.Prelude.{ℕ, ◌≡◌, false, cond, ◌||◌, List, [], ◌∷◌, map, eqb, length, Result}
use Rattle.laws.specs.Rules.{Rule, FirstToHold, NoneHolds}
use Rattle.frame.specs.Line.{single}
use Rattle.frame.specs.Faults.{most_bytes}
use Rattle.frame.specs.Reading.{Outcome, reading}
use Rattle.frame.specs.ReadPromise.{Told}
use Rattle.frame.specs.ReadStated.{goes_on, Answers}
use Rattle.live_answer.specs.declared.Heard.{Heard}
use Rattle.live_answer.specs.declared.HearRefusal.{HearRefusal}
use Rattle.live.specs.Promise.{told_by, hear_rules, past_last}
use Rattle.live.specs.Hearing.{ToldSoFar}
use Rattle.live.specs.Feeding.{started}
use Rattle.live.specs.Shown.{recording, on, LiveCall, taken_in}

-- the intervals that a started reader has heard after some calls: those that were not refused
abbrev pub heard_in : List LiveCall → List ℕ
heard_in cs = recording (taken_in started cs)

-- the number that an interval's answer tells, and none where it decides nothing yet
abbrev pub number_told : Result Heard HearRefusal → List ℕ
number_told h = map (λ (t : Told). t.number) (told_by h)

-- Reading the intervals ws on from 0 stops at p: frames and faults lead there, and from p there is none.
pub record StopsAt (ws : List ℕ) (p : ℕ) : Type 0 where
  pub before : List Outcome
  pub reached : ToldSoFar (single ws) p before
  pub stops : goes_on (reading ws p most_bytes) ≡ false

-- What a row of the table "What reading answers" tells at an interval: 1 and 2 are "asked for separately", so that they tell
-- nothing yet.
abbrev pub at_interval : (row : ℕ) → List ℕ
at_interval row = cond (eqb row 1 || eqb row 2) [] (row ∷ [])

-- the rules by which an interval after ws is refused, with so many bytes lent
abbrev pub rules_after : List ℕ → (lent : ℕ) → List Rule
rules_after ws lent = hear_rules (past_last (length ws)) lent

-- What has to be so for an interval of the width w to tell this number, or none. It comes after the intervals ws, of which
-- reading stops at p: a refusal's rule is the first to hold; or none holds, and it is what a row tells which holds of reading the
-- recording with this interval from p.
pub data HearTells (ws : List ℕ) (p w lent : ℕ) (ns : List ℕ) : Type 0 where
  is_refused : {n : ℕ} → ns ≡ n ∷ [] → FirstToHold n (rules_after ws lent) → HearTells ws p w lent ns
  is_row : {n : ℕ} → ns ≡ at_interval n → NoneHolds (rules_after ws lent) → Answers most_bytes (single (on ws w)) p most_bytes n → HearTells ws p w lent ns
