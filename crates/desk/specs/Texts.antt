-- Definitions.
-- What the desk's program writes of an input: all of its text, and nothing else.
use Rattle.std.specs.Prelude.{ℕ, zero, suc, ◌≤◌, ◌≡◌, List, take, Option, None, Some}
use Rattle.desk_text.specs.Input.{lines, first_bad}
use Rattle.desk_text.specs.Report.{desk_of}
use Rattle.desk_text.specs.Promise.{most_text}
use Rattle.desk.specs.declared.Text.{Text}

-- the number of a bad line, or None for 0
abbrev pub if_bad : ℕ → Option ℕ
if_bad zero = None
if_bad (suc n) = Some (suc n)

-- The first bytes of the page, so many as are told, are the whole text of the input s; and its first bad line is told, or None.
pub record WholeText (s page : List ℕ) (text : Text) : Type 0 where
  pub fits : text.length ≤ most_text
  pub whole : take text.length page ≡ desk_of s
  pub line : text.line ≡ if_bad (first_bad (lines s))
