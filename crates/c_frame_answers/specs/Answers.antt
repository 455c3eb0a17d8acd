-- Definitions.
-- What the exported calls on volts, writing, reading and the desk's text, and the small questions, give: document 01's number
-- first, and the number of a symbol and of a kind of response.
use Rattle.std.specs.Prelude.{ℕ, Bool, cond, not, List, ltb}
use Rattle.volts.specs.Promise as tracing
use Rattle.symbol.specs.declared.Clock.{Clock}
use Rattle.symbol.specs.declared.Symbol.{Symbol}
use Rattle.symbol.specs.Clocks.{good_of}
use Rattle.frame.specs.Writing as writing
use Rattle.frame.specs.WritePromise.{Count}
use Rattle.frame.specs.ReadPromise.{Told}
use Rattle.frame_numbers.specs.Numbers.{symbol_number, kind_number, kind_of}
use Rattle.desk_text.specs.Promise as desk
use Rattle.c_frame_answers.specs.declared.Check.{Check}
use Rattle.c_frame_answers.specs.declared.Class.{Class}
use Rattle.c_frame_answers.specs.declared.Timed.{Timed}
use Rattle.c_frame_answers.specs.declared.Counted.{Counted}
use Rattle.c_frame_answers.specs.declared.Read.{Read}
use Rattle.c_frame_answers.specs.declared.Desk.{Desk}

-- calls that cannot refuse: the number 0, and the check byte ..
abbrev pub check_as : ℕ → Check
check_as b = record { number = 0; check = b }

-- .. the symbol's number ..
abbrev pub class_as : Symbol → Class
class_as s = record { number = 0; symbol = symbol_number s }

-- .. whether the clock is good
abbrev pub timed_as : Bool → Timed
timed_as g = record { number = 0; good = g }

-- what came of a trace: 0 and how many intervals were written, or the number of the refusal and 0
abbrev pub traced_as : tracing.TraceOutcome → Counted
traced_as (tracing.wrote n) = record { number = 0; count = n }
traced_as (tracing.turned_away k) = record { number = k; count = 0 }

-- Writing. A kind that is none of the three asks for no message that there is: 37, after 36, as document 01 has them.
abbrev pub no_such_kind : Clock → writing.Sheet
no_such_kind c = cond (not (good_of c)) (writing.turned_away 36) (writing.turned_away 37)

-- what writing comes to, a kind that there is not included
unfoldable pub sheet_of : Clock → List ℕ → ℕ → List ℕ → ℕ → writing.Sheet
sheet_of c main kind rs lent =
    cond (ltb 2 kind) (no_such_kind c) (writing.writing c main (kind_of kind) rs lent)

-- the writer's number and count
abbrev pub counted_as : Count → Counted
counted_as n = record { number = n.number; count = n.count }

-- what reading tells, the kind of the response by its number
abbrev pub read_as : Told → Read
read_as t =
    record {
      number = t.number;
      kind = kind_number t.response;
      next = t.next;
      opening = t.opening;
      main = t.main_length;
      response = t.response_length;
    }

-- what the desk tells: its number, the first bad line, and how many bytes of text were laid
abbrev pub desk_as : desk.DeskTale → Desk
desk_as t = record { number = t.number; line = t.line; length = t.length }
