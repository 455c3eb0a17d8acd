-- Definitions.
-- The desk's output: the whole text as a function of the input's bytes.
use Rattle.std.specs.Prelude.{ℕ, ◌+◌, cond, List, [], ◌∷◌, ◌++◌, eqb, length}
use Rattle.frame.specs.declared.Response.{Response}
use Rattle.frame.specs.declared.Response.TheVariants.{Without, Plain, Checked}
use Rattle.frame.specs.Faults.{most_bytes}
use Rattle.frame.specs.Reading.{Outcome, good, quiet, unfinished, faulty, refused}
use Rattle.frame.proofs.RecordingOn.{answers_in}
use Rattle.desk_text.specs.Grammar.{newline, tab}
use Rattle.desk_text.specs.Input.{Line, lines, first_bad, customer_of, vehicle_of, recording_of}
use Rattle.desk_text.specs.Numerals.{decimal, hex}

-- ## Words

-- `customer`
abbrev pub w_customer : List ℕ
w_customer = 99 ∷ 117 ∷ 115 ∷ 116 ∷ 111 ∷ 109 ∷ 101 ∷ 114 ∷ []

-- `vehicle`
abbrev pub w_vehicle : List ℕ
w_vehicle = 118 ∷ 101 ∷ 104 ∷ 105 ∷ 99 ∷ 108 ∷ 101 ∷ []

-- `at`
abbrev pub w_at : List ℕ
w_at = 97 ∷ 116 ∷ []

-- `kind`
abbrev pub w_kind : List ℕ
w_kind = 107 ∷ 105 ∷ 110 ∷ 100 ∷ []

-- `main`
abbrev pub w_main : List ℕ
w_main = 109 ∷ 97 ∷ 105 ∷ 110 ∷ []

-- `response`
abbrev pub w_response : List ℕ
w_response = 114 ∷ 101 ∷ 115 ∷ 112 ∷ 111 ∷ 110 ∷ 115 ∷ 101 ∷ []

-- `refused`
abbrev pub w_refused : List ℕ
w_refused = 114 ∷ 101 ∷ 102 ∷ 117 ∷ 115 ∷ 101 ∷ 100 ∷ []

-- `frame`
abbrev pub w_frame : List ℕ
w_frame = 102 ∷ 114 ∷ 97 ∷ 109 ∷ 101 ∷ []

-- `quiet`
abbrev pub w_quiet : List ℕ
w_quiet = 113 ∷ 117 ∷ 105 ∷ 101 ∷ 116 ∷ []

-- `unfinished`
abbrev pub w_unfinished : List ℕ
w_unfinished = 117 ∷ 110 ∷ 102 ∷ 105 ∷ 110 ∷ 105 ∷ 115 ∷ 104 ∷ 101 ∷ 100 ∷ []

-- `fault-`
abbrev pub w_fault : List ℕ
w_fault = 102 ∷ 97 ∷ 117 ∷ 108 ∷ 116 ∷ 45 ∷ []

-- `-`
abbrev pub w_none : List ℕ
w_none = 45 ∷ []

-- `p:`, before a response of bytes alone
abbrev pub w_plain : List ℕ
w_plain = 112 ∷ 58 ∷ []

-- `c:`, before one with a check byte of its own
abbrev pub w_checked : List ℕ
w_checked = 99 ∷ 58 ∷ []

-- ## Lines

-- fields parted by tabs, closed by a newline
abbrev pub line_of : List (List ℕ) → List ℕ
line_of [] = newline ∷ []
line_of (f ∷ []) = f ++ (newline ∷ [])
line_of (f ∷ g ∷ gs) = f ++ (tab ∷ line_of (g ∷ gs))

-- "a header"
abbrev pub header : List ℕ
header = line_of (w_customer ∷ w_vehicle ∷ w_at ∷ w_kind ∷ w_main ∷ w_response ∷ [])

-- "the single line `refused`, tab, number of the first bad line"
abbrev pub refusal : ℕ → List ℕ
refusal n = line_of (w_refused ∷ decimal n ∷ [])

-- ## The line of an answer
-- (Reading from within a recording with twelve bytes lent is never turned away, so that the clauses of `refused` never serve.)

-- "`at` is the opening for 0 and 2, the next position otherwise"
abbrev pub at_of : Outcome → ℕ
at_of (good f) = f.opening
at_of (quiet next) = next
at_of (unfinished opening) = opening
at_of (faulty number next) = next
at_of (refused number) = 0

-- "Kinds are `frame`, `quiet`, `unfinished`, `fault-N`."
abbrev pub kind_of : Outcome → List ℕ
kind_of (good f) = w_frame
kind_of (quiet next) = w_quiet
kind_of (unfinished opening) = w_unfinished
kind_of (faulty number next) = w_fault ++ decimal number
kind_of (refused number) = w_none

-- "A part is upper case hex, or `-` where there is none and for every kind but `frame`"
abbrev pub main_of : Outcome → List ℕ
main_of (good f) = hex f.main
main_of (quiet next) = w_none
main_of (unfinished opening) = w_none
main_of (faulty number next) = w_none
main_of (refused number) = w_none

-- "a response has `p:` or `c:` before it"
abbrev pub marked : Response → List ℕ → List ℕ
marked Without response = w_none
marked Plain response = w_plain ++ hex response
marked Checked response = w_checked ++ hex response

-- the last field of a line
abbrev pub response_of : Outcome → List ℕ
response_of (good f) = marked f.kind f.response
response_of (quiet next) = w_none
response_of (unfinished opening) = w_none
response_of (faulty number next) = w_none
response_of (refused number) = w_none

-- the line of an answer, in the header's columns
unfoldable pub answer_text : List ℕ → List ℕ → Outcome → List ℕ
answer_text customer vehicle x = line_of (customer ∷ vehicle ∷ decimal (at_of x) ∷ kind_of x ∷ main_of x ∷ response_of x ∷ [])

-- ## The whole text

-- a line for each answer
unfoldable pub answers_text : List ℕ → List ℕ → List Outcome → List ℕ
answers_text customer vehicle [] = []
answers_text customer vehicle (x ∷ xs) = answer_text customer vehicle x ++ answers_text customer vehicle xs

-- the answers from the recording's start, each read from the next position of the one before, "until quiet or unfinished"
abbrev pub answers : List ℕ → List Outcome
answers ws = answers_in (length ws + 1) ws most_bytes 0

-- "a header, then a line for each answer"
unfoldable pub report : List ℕ → List ℕ → List ℕ → List ℕ
report customer vehicle ws = header ++ answers_text customer vehicle (answers ws)

-- "Any other input gives the single line .. Otherwise a header, then .."
abbrev pub desk_by : List Line → List ℕ
desk_by ls = cond (eqb (first_bad ls) 0) (report (customer_of ls) (vehicle_of ls) (recording_of ls)) (refusal (first_bad ls))

-- What the desk writes for an input of bytes.
unfoldable pub desk_of : List ℕ → List ℕ
desk_of s = desk_by (lines s)
