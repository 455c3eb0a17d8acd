-- Definitions.
-- A round, bit by bit, as document 01 tells it in "Writing and the bench": who asks for what, what the line does, who stops.
-- Each pulse has a width of its own, so that nothing here speaks of clocks.
use Rattle.std.specs.Prelude.{ℕ, zero, suc, min, max, Bool, true, false, cond, not, List, [], ◌∷◌, ◌++◌, map}
use Rattle.std.specs.Bool.{beq}
use Rattle.symbol.specs.declared.Symbol.TheVariants.{Bit1}
use Rattle.symbol.specs.Classes.{class_of}
use Rattle.frame.specs.Line.{is}
use Rattle.bench.specs.declared.Fared.{Fared}
use Rattle.bench.specs.declared.Fared.TheVariants.{Through, Lost}

-- A bit that a station has to send, and the width that it asks for.
pub record Pulse : Type 0 where
  pub bit : Bool
  pub width : ℕ

-- A place in a round: out of it, as it fared; or remaining, with the pulses that it still has to send.
pub data Seat : Type 0 where
  out : Fared → Seat
  on : List Pulse → Seat

-- ## Who asks for what

-- "A station that has sent its check byte asks for nothing"; nor does one that is out.
abbrev pub asks : Seat → List Pulse
asks (out f) = []
asks (on []) = []
asks (on (p ∷ ps)) = p ∷ []

-- what is asked for at this bit
unfoldable pub asked : List Seat → List Pulse
asked [] = []
asked (s ∷ seats) = asks s ++ asked seats

-- the widths alone
abbrev pub widths_of : List Pulse → List ℕ
widths_of ps = map (λ (p : Pulse). p.width) ps

-- ## What the line does

-- The shortest of widths: somebody asks for it and nobody asks for less (`shortest_asked`, `shortest_least`). Where nobody
-- asks there is none; the 0 stands for it and is never on the line.
unfoldable pub shortest : List ℕ → ℕ
shortest [] = 0
shortest (w ∷ []) = w
shortest (w ∷ v ∷ ws) = min w (shortest (v ∷ ws))

-- The longest of widths: somebody asks for it and nobody asks for more (`longest_asked`, `longest_most`). Where nobody asks
-- there is none; the 0 stands for it and is never on the line.
unfoldable pub longest : List ℕ → ℕ
longest [] = 0
longest (w ∷ ws) = max w (longest ws)

-- "A passive bit lasts as long as the shortest any remaining station asks for; an active bit .., the longest."
abbrev pub lasts : Bool → List ℕ → ℕ
lasts false ws = shortest ws
lasts true ws = longest ws

-- the bit on the line: the one that the table of symbols gives to its width, at its level
unfoldable pub on_line : Bool → ℕ → Bool
on_line active w = is Bit1 (class_of active w)

-- ## Who stops

-- What a place is after bit k, when b was on the line. "A station whose bit isn't the bit on the line stops at once and
-- loses at that bit"; of one that has sent its check byte, "if others go on, it loses at the next bit".
abbrev pub heard : ℕ → Bool → Seat → Seat
heard k b (out f) = out f
heard k b (on []) = out (Lost k)
heard k b (on (p ∷ ps)) = cond (beq p.bit b) (on ps) (out (Lost k))

-- ## The bits of a round

-- How the bits of a round went: the width of each on the line, and the places in the end.
pub record Course : Type 0 where
  pub widths : List ℕ
  pub seats : List Seat

-- no bit more
abbrev pub over : List Seat → Course
over seats = record { widths = []; seats = seats }

-- a bit of width w, and what comes after it
abbrev pub bit_then : ℕ → Course → Course
bit_then w c = record { widths = w ∷ c.widths; seats = c.seats }

-- every remaining station has sent its check byte
abbrev pub nobody_asks : List Pulse → Bool
nobody_asks [] = true
nobody_asks (p ∷ ps) = false

-- a message has at most 12 bytes with its check byte, and so at most these bits
abbrev pub most_bits : ℕ
most_bits = 96

-- The bits from bit k on. "The round is over when every remaining station has sent its check byte", which is when nobody
-- asks. The first number only bounds how many bits are told, as a recursion must have it: `row_finishes` shows that with 96
-- every round of sound stations is over.
unfoldable pub play : ℕ → Bool → ℕ → List Seat → Course
play zero active k seats = over seats
play (suc n) active k seats =
    let w : ℕ = lasts active (widths_of (asked seats)) in
    cond (nobody_asks (asked seats)) (over seats)
    (bit_then w (play n (not active) (suc k) (map (heard k (on_line active w)) seats)))

-- How a place fared in the end: who remains has sent its message whole.
abbrev pub fared_at : Seat → Fared
fared_at (out f) = f
fared_at (on ps) = Through
