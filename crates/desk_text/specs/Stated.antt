-- Definitions.
-- What the theorems of this room are stated with.
use Rattle.std.specs.Prelude.{ℕ, ◌≤◌, ◌<◌, ◌%◌, ◌+◌, true, List, [], ◌∷◌, ◌++◌, ◌≡◌, length}
use Rattle.frame.specs.declared.Fault.{Fault}
use Rattle.frame.specs.ReadPromise.{fault_number}
use Rattle.frame.specs.Faults.{most_bytes}
use Rattle.frame.specs.Reading.{Outcome, quiet, unfinished, Good, good, faulty}
use Rattle.label.specs.Labels.{is_label}
use Rattle.desk_text.specs.Grammar.{tab, is_width}
use Rattle.desk_text.specs.Input.{Line, own, field, iv, shut}
use Rattle.desk_text.specs.Numerals.{decimal}
use Rattle.desk_text.specs.Report.{at_of, kind_of, main_of, response_of, w_customer, w_vehicle, w_at, w_kind, w_main, w_response}

-- pieces with b between them
abbrev pub joined : ℕ → List (List ℕ) → List ℕ
joined b [] = []
joined b (p ∷ []) = p
joined b (p ∷ q ∷ ps) = p ++ (b ∷ joined b (q ∷ ps))

-- A good first line: `own`, the customer and the vehicle, with a tab between two.
pub record OwnIs (l : Line) : Type 0 where
  pub closed : l.closed ≡ true
  pub made : l.bytes ≡ own ++ (tab ∷ (field 1 l ++ (tab ∷ field 2 l)))
  pub customer : is_label (field 1 l) ≡ true
  pub vehicle : is_label (field 2 l) ≡ true

-- A good later line: `iv`, a tab and a width.
pub record IvIs (l : Line) : Type 0 where
  pub closed : l.closed ≡ true
  pub made : l.bytes ≡ iv ++ (tab ∷ field 1 l)
  pub width : is_width (field 1 l) ≡ true

-- An answer of reading from p in the recording ws, with what is known of its places and sizes.
pub data Answer (ws : List ℕ) (p : ℕ) : Outcome → Type 0 where
  is_silence : Answer ws p (quiet p)
  is_open : {o : ℕ} → p ≤ o → o < length ws → Answer ws p (unfinished o)
  is_frame : {f : Good} → p ≤ f.opening → f.opening % 2 ≡ 0 → f.opening + 18 ≤ f.next → f.next < length ws
      → length f.main + length f.response ≤ most_bytes → Answer ws p (good f)
  is_fault : {o k n : ℕ} (f : Fault) → fault_number f ≡ n → p ≤ o → o % 2 ≡ 0 → o < k → k < length ws → Answer ws p (faulty n k)

-- what a line tells of an answer, whoever's the recording is
abbrev pub tells_of : Outcome → List (List ℕ)
tells_of x = decimal (at_of x) ∷ kind_of x ∷ main_of x ∷ response_of x ∷ []

-- the line of an answer, without its newline
abbrev pub answer_line : List ℕ → List ℕ → Outcome → Line
answer_line customer vehicle x = shut (joined tab (customer ∷ vehicle ∷ tells_of x))

-- the lines of the answers
abbrev pub answer_lines : List ℕ → List ℕ → List Outcome → List Line
answer_lines customer vehicle [] = []
answer_lines customer vehicle (x ∷ xs) = answer_line customer vehicle x ∷ answer_lines customer vehicle xs

-- the header, without its newline
abbrev pub header_line : Line
header_line = shut (joined tab (w_customer ∷ w_vehicle ∷ w_at ∷ w_kind ∷ w_main ∷ w_response ∷ []))
