-- Definitions.
-- What the lines of the text take from an answer, told by the definitions of the rooms below.
use Rattle.std.specs.Prelude.{ℕ, Bool, true, false, List, [], ◌∷◌, ◌++◌, Option, Some, None, Result, Ok, Err}
use Rattle.frame.specs.declared.Response.{Response}
use Rattle.frame.specs.declared.Response.TheVariants.{Without, Plain, Checked}
use Rattle.frame.specs.declared.Reading.{Reading}
use Rattle.frame.specs.declared.Reading.TheVariants.{Frame, Quiet, Unfinished, Faulty}
use Rattle.frame.specs.declared.ReadRefusal.{ReadRefusal}
use Rattle.desk_text.specs.Grammar.{newline}
use Rattle.desk_text.specs.Report.{w_none, w_plain, w_checked}

-- where reading goes on after an answer
abbrev pub after_of : Result Reading ReadRefusal → Option ℕ
after_of (Ok (Frame lengths response opening next)) = Some next.0
after_of (Ok (Quiet next)) = None
after_of (Ok (Unfinished opening)) = None
after_of (Ok (Faulty fault next)) = Some next.0
after_of (Err refusal) = None

-- a frame without a response
abbrev pub is_without : Response → Bool
is_without Without = true
is_without Plain = false
is_without Checked = false

-- what the last field of a frame's line begins with: the mark of its response; where there is none, `-` and the newline, which
-- is all of it
abbrev pub mark_of : Response → List ℕ
mark_of Without = w_none ++ (newline ∷ [])
mark_of Plain = w_plain
mark_of Checked = w_checked
