-- Definitions.
-- A frame on the line at any widths: what is meant at each interval, and widths that lie in the receiving windows of what is
-- meant. The writer's words are such a wave for every good clock, and so is the line of a round.
use Rattle.std.specs.Prelude.{ℕ, ◌≤◌, ◌≡◌, Bool, true, not, List, [], ◌∷◌, ◌++◌, map}
use Rattle.symbol.specs.declared.Symbol.{Symbol}
use Rattle.symbol.specs.declared.Symbol.TheVariants.{Bit0, Bit1, Eod, Sof}
use Rattle.symbol.specs.Classes.{Window}
use Rattle.symbol.specs.Sending.{bit_symbol}
use Rattle.checkbyte.specs.Register.{with_check}
use Rattle.frame.specs.declared.Response.{Response}
use Rattle.frame.specs.declared.Response.TheVariants.{Without, Plain, Checked}
use Rattle.frame.specs.Bits.{bits_of}

-- The widths carry the symbols, from a level on: each lies in its symbol's window, and the level turns at each.
pub data Wave : Bool → List Symbol → List ℕ → Type 0 where
  still : {active : Bool} → Wave active [] []
  pulse : {active : Bool} {s : Symbol} {w : ℕ} {symbols : List Symbol} {ws : List ℕ} → Window active s w → Wave (not active) symbols ws
      → Wave active (s ∷ symbols) (w ∷ ws)

-- the symbols of bits, and of bytes, "the high bit first"
abbrev pub bit_symbols : List Bool → List Symbol
bit_symbols bits = map bit_symbol bits

-- those of bytes
abbrev pub byte_symbols : List ℕ → List Symbol
byte_symbols bs = bit_symbols (bits_of bs)

-- what a response puts after the main part: an EOD, a normalization bit, "short: no check byte; long: check byte last", bytes
abbrev pub response_symbols : Response → List ℕ → List Symbol
response_symbols Without rs = []
response_symbols Plain rs = Eod ∷ Bit1 ∷ byte_symbols rs
response_symbols Checked rs = Eod ∷ Bit0 ∷ byte_symbols (with_check rs)

-- what a frame puts between its opening and its closing end
abbrev pub frame_symbols : List ℕ → Response → List ℕ → List Symbol
frame_symbols main kind rs = Sof ∷ (byte_symbols (with_check main) ++ response_symbols kind rs)

-- The words are a frame of this message, at any widths that are received as it is meant: an end of 240 or more opens it, an
-- end of 240 or more closes it, and what stands between them carries the frame's symbols.
pub record FrameWave (main : List ℕ) (kind : Response) (rs : List ℕ) (ws : List ℕ) : Type 0 where
  pub opening : ℕ
  pub inner : List ℕ
  pub closing : ℕ
  pub words_are : ws ≡ opening ∷ (inner ++ (closing ∷ []))
  pub opens : 240 ≤ opening
  pub carries : Wave true (frame_symbols main kind rs) inner
  pub closes : 240 ≤ closing
