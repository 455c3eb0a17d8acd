-- Definitions.
-- Why a line of the desk's input is bad: the first of these reasons that holds.
use Rattle.std.specs.Prelude.{ℕ, ◌+◌, ◌-◌, Bool, cond, List, [], codes, eqb, leb, ltb, length, get_or}
use Rattle.desk_text.specs.Input.{Line, unshut, lines, most_widths}
use Rattle.desk_reason.specs.declared.Reason.{Reason}
use Rattle.desk_reason.specs.declared.Reason.TheVariants.{Missing, Unclosed, CarriageReturn, NotOwn, TooMany, NotWidth}

-- the last byte of a line is a carriage return
unfoldable pub ends_in_return : List ℕ → Bool
ends_in_return l = eqb (get_or l (length l - 1) 0) 13

-- a line that a newline closes: a carriage return before the newline; the first line; a line past the 16,384 with a width; any other
unfoldable pub closed_reason : (returned : Bool) → ℕ → Reason
closed_reason returned n = cond returned CarriageReturn (cond (leb n 1) NotOwn (cond (ltb (most_widths + 1) n) TooMany NotWidth))

-- a line of so many bytes that none closes: without a byte there is no line
unfoldable pub open_reason : ℕ → Reason
open_reason k = cond (eqb k 0) Missing Unclosed

-- why line n is bad, where it is
abbrev pub reason_of : ℕ → Line → Reason
reason_of n l = cond l.closed (closed_reason (ends_in_return l.bytes) n) (open_reason (length l.bytes))

-- a line of an input, counted from 1; past the last one stands a line that is open and has no byte
abbrev pub line_at : ℕ → List Line → Line
line_at n ls = get_or ls (n - 1) (unshut [])

-- the first line of a text
abbrev pub first_of : List ℕ → Line
first_of s = line_at 1 (lines s)

-- Why line n of an input is bad.
abbrev pub reason_at : ℕ → List Line → Reason
reason_at n ls = reason_of n (line_at n ls)

-- A reason in words.
abbrev pub words_of : Reason → List ℕ
words_of Missing = codes "the input has no such line"
words_of Unclosed = codes "no newline closes it"
words_of CarriageReturn = codes "a carriage return stands before its newline"
words_of NotOwn = codes "it is not own, customer and vehicle, parted by tabs"
words_of TooMany = codes "16384 lines with a width stand before it"
words_of NotWidth = codes "it is not iv and a width, parted by a tab"
