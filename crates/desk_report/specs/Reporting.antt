-- Machinery.
-- What printing a whole report comes to, from any position of a recording on.
use Rattle.std.specs.Prelude.{ℕ, ◌+◌, ◌-◌, ◌≤◌, ◌≡◌, List, length, take, drop, Option, Some, None}
use Rattle.frame.specs.Faults.{most_bytes}
use Rattle.frame.specs.Reading.{Outcome, good, quiet, unfinished, faulty, refused, reading}
use Rattle.frame.proofs.RecordingOn.{answers_in}
use Rattle.desk_text.specs.declared.Labels.{Labels}
use Rattle.desk_text.specs.Report.{answer_text, answers_text}
use Rattle.desk_text.specs.LabelPlaces.{customer_place}
use Rattle.desk_report.specs.declared.lines.Step.{Step}
use Rattle.desk_report.specs.Laying.{Laid}

-- the answer at a position ..
abbrev pub answer_at : List ℕ → ℕ → Outcome
answer_at ws p = reading ws p most_bytes

-- .. and where reading goes on after it
abbrev pub onwards : Outcome → Option ℕ
onwards (good f) = Some f.next
onwards (quiet next) = None
onwards (unfinished opening) = None
onwards (faulty number next) = Some next
onwards (refused number) = None

-- the lines of the answers from p on
unfoldable pub text_from : List ℕ → List ℕ → List ℕ → ℕ → List ℕ
text_from customer vehicle ws p = answers_text customer vehicle (answers_in (length ws + 1 - p) ws most_bytes p)

-- one line is laid, and its length and what follows are answered
pub record Stepped (customer vehicle ws : List ℕ) (p : ℕ) (entry exit : List ℕ) (r : Step) : Type 0 where
  pub line : Laid (answer_text customer vehicle (answer_at ws p)) entry exit r.length
  pub follows : r.next ≡ onwards (answer_at ws p)

-- the customer's label, by the labels' lengths in an input
abbrev pub customer_in : List ℕ → Labels → List ℕ
customer_in s l = take l.customer (drop customer_place s)

-- the vehicle's stands after the customer's and a tab
abbrev pub vehicle_in : List ℕ → Labels → List ℕ
vehicle_in s l = take l.vehicle (drop (customer_place + l.customer + 1) s)

-- the labels end within the input
abbrev pub Within : List ℕ → Labels → Type 0
Within s l = customer_place + l.customer + 1 + l.vehicle ≤ length s
