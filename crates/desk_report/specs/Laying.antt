-- Machinery.
-- What the steps of printing lay down, told by the definitions of the rooms below.
use Rattle.std.specs.Prelude.{ℕ, ◌+◌, ◌≤◌, ◌≡◌, List, [], ◌∷◌, ◌++◌, length, take, drop, Result, Ok, Err}
use Rattle.frame.specs.declared.Lengths.{Lengths}
use Rattle.frame.specs.declared.Response.{Response}
use Rattle.frame.specs.declared.Fault.{Fault}
use Rattle.frame.specs.declared.Reading.{Reading}
use Rattle.frame.specs.declared.Reading.TheVariants.{Frame, Quiet, Unfinished, Faulty}
use Rattle.frame.specs.declared.ReadRefusal.{ReadRefusal}
use Rattle.frame.specs.ReadPromise.{fault_number}
use Rattle.desk_text.specs.Grammar.{newline, tab}
use Rattle.desk_text.specs.Numerals.{decimal, hex}
use Rattle.desk_text.specs.Report.{w_frame, w_quiet, w_unfinished, w_fault, w_none, line_of, marked}

-- A text stands first, what stood after it is unchanged, and its length is told.
pub record Laid (text entry exit : List ℕ) (count : ℕ) : Type 0 where
  pub counts : count ≡ length text
  pub lays : exit ≡ text ++ drop (length text) entry

-- there is space for a text
pub record Space (text lent : List ℕ) : Type 0 where
  pub fits : length text ≤ length lent

-- a field and the tab after it
abbrev pub tabbed : List ℕ → List ℕ
tabbed f = f ++ (tab ∷ [])

-- the last field of a frame's line
abbrev pub response_end : Response → List ℕ → List ℕ
response_end kind bs = marked kind bs ++ (newline ∷ [])

-- the last three fields of a line: of a frame whose bytes stand first in s ..
unfoldable pub frame_end : Lengths → Response → List ℕ → List ℕ
frame_end n kind s = line_of (w_frame ∷ hex (take n.main s) ∷ marked kind (take n.response (drop n.main s)) ∷ [])

-- .. of a fault
unfoldable pub fault_end : Fault → List ℕ
fault_end f = line_of ((w_fault ++ decimal (fault_number f)) ∷ w_none ∷ w_none ∷ [])

-- .. and of an answer
abbrev pub end_of : Result Reading ReadRefusal → List ℕ → List ℕ
end_of (Ok (Frame lengths response opening next)) s = frame_end lengths response s
end_of (Ok (Quiet next)) s = line_of (w_quiet ∷ w_none ∷ w_none ∷ [])
end_of (Ok (Unfinished opening)) s = line_of (w_unfinished ∷ w_none ∷ w_none ∷ [])
end_of (Ok (Faulty fault next)) s = fault_end fault
end_of (Err refusal) s = line_of (w_none ∷ w_none ∷ w_none ∷ [])

-- the bytes of a frame stand in s
abbrev pub Holds : Result Reading ReadRefusal → List ℕ → Type 0
Holds (Ok (Frame lengths response opening next)) s = lengths.main + lengths.response ≤ length s
Holds (Ok (Quiet next)) s = Unit {0}
Holds (Ok (Unfinished opening)) s = Unit {0}
Holds (Ok (Faulty fault next)) s = Unit {0}
Holds (Err refusal) s = Unit {0}

-- where an answer stands
abbrev pub place_of : Result Reading ReadRefusal → ℕ
place_of (Ok (Frame lengths response opening next)) = opening.0
place_of (Ok (Quiet next)) = next.0
place_of (Ok (Unfinished opening)) = opening.0
place_of (Ok (Faulty fault next)) = next.0
place_of (Err refusal) = 0

-- the line of an answer
unfoldable pub line_in : List ℕ → List ℕ → Result Reading ReadRefusal → List ℕ → List ℕ
line_in customer vehicle r s = tabbed customer ++ (tabbed vehicle ++ (tabbed (decimal (place_of r)) ++ end_of r s))
