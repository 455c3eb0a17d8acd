-- Definitions.
-- A recording's intervals, each replaced by its symbol's nominal width: what demand 2's second theorem speaks of.
use Rattle.std.specs.Prelude.{ℕ, zero, suc, ◌+◌, ◌-◌, cond, List, [], ◌∷◌, Option, None, Some, take, length}
use Rattle.units.specs.declared.Micros.{Micros}
use Rattle.symbol.specs.Clocks.{nominal_clock}
use Rattle.symbol.specs.Sending.{end_width, sent_of}
use Rattle.frame.specs.declared.Response.{Response}
use Rattle.frame.specs.declared.Response.TheVariants.{Without, Plain, Checked}
use Rattle.frame.specs.Line.{active_at, symbol_at, single, end_at}

-- the bytes without the last one, which is their check byte
abbrev pub without_check : List ℕ → List ℕ
without_check bs = take (length bs - 1) bs

-- the width of what is sent; 0 where nothing is, which no frame has
abbrev pub width_of : Option Micros → ℕ
width_of (Some w) = w.0
width_of None = 0

-- the nominal width of the interval at j: 300 for an end, else what the nominal clock sends for its symbol at its level
unfoldable pub nominal_at : List ℕ → ℕ → ℕ
nominal_at ws j = cond (end_at (single ws) j) end_width.0 (width_of (sent_of nominal_clock (active_at j) (symbol_at ws j)))

-- the nominal widths of n places, from i on
unfoldable pub nominal_from : List ℕ → ℕ → ℕ → List ℕ
nominal_from ws i zero = []
nominal_from ws i (suc n) = nominal_at ws i ∷ nominal_from ws (i + 1) n

-- the nominal widths of the places from o to k, both included
abbrev pub nominal_intervals : List ℕ → ℕ → ℕ → List ℕ
nominal_intervals ws o k = nominal_from ws o (k + 1 - o)

-- the response that was read, without its check byte where it has one
abbrev pub response_bare : Response → List ℕ → List ℕ
response_bare Without rs = []
response_bare Plain rs = rs
response_bare Checked rs = without_check rs
