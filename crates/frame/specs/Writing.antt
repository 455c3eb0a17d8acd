-- Definitions.
-- Writing a frame: document 01, "Writing and the bench", first paragraph, and refusals 36, 37, 32.
use Rattle.std.specs.Prelude.{ℕ, ◌+◌, Bool, true, false, cond, not, ◌||◌, List, [], ◌∷◌, ◌++◌, eqb, ltb, length}
use Rattle.laws.specs.Meant.{Test, set, unset, below}
use Rattle.laws.specs.Rules.{Rule, rule, first_rule}
use Rattle.symbol.specs.declared.Clock.{Clock}
use Rattle.symbol.specs.Clocks.{good_of}
use Rattle.symbol.specs.Sending.{bit_width, end_width}
use Rattle.checkbyte.specs.Register.{with_check}
use Rattle.frame.specs.declared.Response.{Response}
use Rattle.frame.specs.declared.Response.TheVariants.{Without, Plain, Checked}
use Rattle.frame.specs.Bits.{bits_of}
use Rattle.frame.specs.Faults.{most_bytes}
use Rattle.frame.specs.Reading.{Good}

-- "A frame takes at most 101 words"
abbrev pub most_words : ℕ
most_words = 101

-- the widths of bits, from a level on: the level turns at each
unfoldable pub bit_widths : Clock → Bool → List Bool → List ℕ
bit_widths c active [] = []
bit_widths c active (b ∷ bits) = (bit_width c active b).0 ∷ bit_widths c (not active) bits

-- bytes on the line: "the high bit first, starting passive"
abbrev pub byte_widths : Clock → List ℕ → List ℕ
byte_widths c bs = bit_widths c false (bits_of bs)

-- the bytes of a response as they go out, "response bytes count only where a response is asked for"
abbrev pub response_sent : Response → List ℕ → List ℕ
response_sent Without rs = []
response_sent Plain rs = rs
response_sent Checked rs = with_check rs

-- The good frame that a message is, its checks included, where it opens at o and closes at k.
abbrev pub frame_sent : (main : List ℕ) → Response → (rs : List ℕ) → (o k : ℕ) → Good
frame_sent main kind rs o k = record { main = with_check main; response = response_sent kind rs; kind = kind; opening = o; next = k }

-- The EOD, at the SOF's width, and "a normalization bit, short for a plain response, long for a checked one", and the bytes.
abbrev pub response_widths : Clock → Response → List ℕ → List ℕ
response_widths c Without rs = []
response_widths c Plain rs = c.sof.0 ∷ (bit_width c true true).0 ∷ byte_widths c rs
response_widths c Checked rs = c.sof.0 ∷ (bit_width c true false).0 ∷ byte_widths c (with_check rs)

-- The words of a frame: the opening, the SOF, the main part with its check byte, the response, the closing end.
unfoldable pub frame_words : Clock → List ℕ → Response → List ℕ → List ℕ
frame_words c main kind rs =
    end_width.0 ∷ c.sof.0 ∷ (byte_widths c (with_check main) ++ (response_widths c kind rs ++ (end_width.0 ∷ [])))

-- a response is asked for, and has no bytes
abbrev pub empty_response : Response → List ℕ → Bool
empty_response Without rs = false
empty_response Plain rs = eqb (length rs) 0
empty_response Checked rs = eqb (length rs) 0

-- "message empty, response empty where one is asked for, or more than 12 bytes with checks"
unfoldable pub bad_message : List ℕ → Response → List ℕ → Bool
bad_message main kind rs =
    eqb (length main) 0 || (empty_response kind rs || ltb most_bytes (length (with_check main) + length (response_sent kind rs)))

-- What writing comes to: words, or a refusal by its number.
pub data Sheet : Type 0 where
  words : List ℕ → Sheet
  turned_away : (number : ℕ) → Sheet

-- 36: "clock outside the sending windows"
abbrev pub bad_clock : Clock → Test
bad_clock c = unset (good_of c)

-- 32: "lent words under 101"
abbrev pub few_words : (lent : ℕ) → Test
few_words lent = below lent most_words

-- "Where several apply: .. writing 36, 37, 32": the clock, the message, and so many words lent
abbrev pub write_rules : Clock → List ℕ → Response → List ℕ → (lent : ℕ) → List Rule
write_rules c main kind rs lent =
    rule 36 (bad_clock c)
    ∷ rule 37 (set (bad_message main kind rs))
    ∷ rule 32 (few_words lent)
    ∷ []

-- what a call comes to, by the number of the first rule that holds: the words of the frame where none does
abbrev pub sheet_by : ℕ → List ℕ → Sheet
sheet_by number ws = cond (eqb number 0) (words ws) (turned_away number)

-- Writing with so many words lent.
unfoldable pub writing : Clock → List ℕ → Response → List ℕ → (lent : ℕ) → Sheet
writing c main kind rs lent = sheet_by (first_rule (write_rules c main kind rs lent)) (frame_words c main kind rs)
