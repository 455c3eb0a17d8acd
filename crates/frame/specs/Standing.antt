-- Definitions.
-- Where an interval stands in its frame, and what stands before it there. Document 01, "Frames on the line": after the
-- opening "come SOF, bytes .., then an end, or EOD and a response. A response is an active normalization bit .., bytes, and
-- an end."
use Rattle.std.specs.Prelude.{ℕ, ◌+◌, Bool, true, false, cond, List, [], ◌∷◌, ◌++◌, eqb}
use Rattle.frame.specs.Signs.{Sign, bits_shown, is_eod}
use Rattle.frame.specs.Line.{Line, Found, nowhere, at, first_in, bits_in}

-- a response that there is: without a check byte, or with one
pub data Kind : Type 0 where
  plain : Kind
  checked : Kind

-- "short: no check byte; long: check byte last": at the active normalization bit a short width is a 1
abbrev pub kind_by : Bool → Kind
kind_by true = plain
kind_by false = checked

-- The place of an interval in its frame, with the bits of each part that stand before it.
pub data Standing : Type 0 where
  at_sof : Standing
  in_main : (main : List Bool) → Standing
  at_normalization : (main : List Bool) → Standing
  in_response : Kind → (main response : List Bool) → Standing

-- ## More bits

-- the bits after an EOD: the first of them is the normalization bit
abbrev pub response_by : (main bits : List Bool) → Standing
response_by main [] = at_normalization main
response_by main (b ∷ bits) = in_response (kind_by b) main bits

-- a standing with more bits
abbrev pub with_bits : Standing → List Bool → Standing
with_bits at_sof bits = at_sof
with_bits (in_main m) bits = in_main (m ++ bits)
with_bits (at_normalization m) bits = response_by m bits
with_bits (in_response k m r) bits = in_response k m (r ++ bits)

-- the standing of an interval with the bits that the interval itself completes
abbrev pub counted : Standing → Sign → Standing
counted st s = with_bits st (bits_shown s)

-- the standing after an interval
abbrev pub moved : Standing → Sign → Standing
moved at_sof s = in_main []
moved (in_main m) s = cond (is_eod s) (at_normalization (m ++ bits_shown s)) (in_main (m ++ bits_shown s))
moved (at_normalization m) s = response_by m (bits_shown s)
moved (in_response k m r) s = in_response k m (r ++ bits_shown s)

-- ## Where a place stands

-- The opening is at o, the SOF's place is o + 1, and the main part's bits begin at o + 2. The first EOD from there on, at e,
-- closes the main part; the first bit after it is the normalization bit, and the response's bits follow.
abbrev pub stands_by : Found → Line → ℕ → ℕ → Standing
stands_by nowhere l o k = in_main (bits_in l (o + 2) k)
stands_by (at e) l o k = response_by (bits_in l (o + 2) (e + 1)) (bits_in l (e + 1) k)

-- where place k stands in the frame that opens at o
unfoldable pub stands : Line → ℕ → ℕ → Standing
stands l o k = cond (eqb k (o + 1)) at_sof (stands_by (first_in (λ j. is_eod (l.shows j)) (o + 2) k) l o k)
