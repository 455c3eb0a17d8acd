-- Definitions.
-- What the theorems on writing, on reading back and on writing again are stated with.
use Rattle.std.specs.Prelude.{ℕ, ◌≤◌, ◌+◌, ◌-◌, false, true, Bool, List, [], ◌∷◌, ◌++◌, ◌≡◌, length, take, drop}
use Rattle.symbol.specs.declared.Clock.{Clock}
use Rattle.symbol.specs.declared.Symbol.{Symbol}
use Rattle.symbol.specs.declared.Symbol.TheVariants.{Bit1, Bit0, Sof, Eod}
use Rattle.symbol.specs.Clocks.{nominal_clock}
use Rattle.checkbyte.specs.Register.{with_check, Bytes}
use Rattle.frame.specs.declared.Lengths.{Lengths}
use Rattle.frame.specs.declared.Response.{Response}
use Rattle.frame.specs.declared.Response.TheVariants.{Without, Plain, Checked}
use Rattle.frame.specs.Bits.{bytes}
use Rattle.frame.specs.Faults.{most_bytes}
use Rattle.frame.specs.Line.{symbol_at, single, active_at}
use Rattle.frame.specs.Nominal.{without_check, response_bare, nominal_intervals}
use Rattle.frame.specs.ReadStated.{Complete, ChecksRight}
use Rattle.frame.specs.Reading.{Good}
use Rattle.frame.specs.Standing.{Kind, plain, checked, Standing, at_sof, in_main, at_normalization, in_response, stands}
use Rattle.frame.specs.Waves.{bit_symbols}
use Rattle.frame.specs.Writing.{bad_message, frame_words, response_sent, byte_widths, response_widths}

-- the places from i on carry these symbols
abbrev pub Carry : List ℕ → ℕ → List Symbol → Type 0
Carry ws i [] = Unit {0}
Carry ws i (s ∷ symbols) = (symbol_at ws i ≡ s) × Carry ws (i + 1) symbols

-- a response is not empty where one is asked for
abbrev pub SomeResponse : Response → List ℕ → Type 0
SomeResponse Without rs = Unit {0}
SomeResponse Plain rs = 1 ≤ length rs
SomeResponse Checked rs = 1 ≤ length rs

-- A message is admitted: it has bytes, its response has bytes where one is asked for, and with checks there are at most 12.
pub record Admitted (main : List ℕ) (kind : Response) (rs : List ℕ) : Type 0 where
  pub some_main : 1 ≤ length main
  pub some_response : SomeResponse kind rs
  pub at_most : length (with_check main) + length (response_sent kind rs) ≤ most_bytes

-- what the writer puts between the two ends
abbrev pub inner_words : Clock → List ℕ → Response → List ℕ → List ℕ
inner_words c main kind rs = c.sof.0 ∷ (byte_widths c (with_check main) ++ response_widths c kind rs)

-- "short: no check byte; long: check byte last": the normalization bit of a response
abbrev pub normalization : Kind → Symbol
normalization plain = Bit1
normalization checked = Bit0

-- the symbols between the opening and a place, from where the place stands
abbrev pub spelled : Standing → List Symbol
spelled at_sof = []
spelled (in_main m) = Sof ∷ bit_symbols m
spelled (at_normalization m) = Sof ∷ (bit_symbols m ++ (Eod ∷ []))
spelled (in_response k m r) = Sof ∷ (bit_symbols m ++ (Eod ∷ normalization k ∷ bit_symbols r))

-- What holds of a standing that was reached without a fault, at a place of this level: the SOF and the normalization bit are
-- active, a main part that an EOD has closed is complete and its check right, and there are no more bytes than a frame may have.
abbrev pub Sound : (limit : ℕ) → Bool → Standing → Type 0
Sound limit active at_sof = active ≡ true
Sound limit active (in_main m) = length (bytes m) ≤ limit
Sound limit active (at_normalization m) = (active ≡ true) × (Complete (in_main m) × (ChecksRight (in_main m) × (length (bytes m) ≤ limit)))
Sound limit active (in_response k m r) = Complete (in_main m) × (ChecksRight (in_main m) × (length (bytes m) + length (bytes r) ≤ limit))

-- Place k, with nothing decided before it: the places between the opening o and k carry what the standing spells, and all is
-- sound.
pub record Reached (limit : ℕ) (ws : List ℕ) (o k : ℕ) : Type 0 where
  pub count : o + 1 + length (spelled (stands (single ws) o k)) ≡ k
  pub carry : Carry ws (o + 1) (spelled (stands (single ws) o k))
  pub sound : Sound limit (active_at k) (stands (single ws) o k)

-- What is known of a good frame that was read: without their checks its parts are an admitted message, which with its checks is
-- those parts; and written at the nominal clock that message is the recording's intervals from opening to closing, each
-- replaced by its symbol's nominal width, both ends by 300, and so many words as these intervals are.
pub record WrittenAgain (ws : List ℕ) (f : Good) : Type 0 where
  pub is_admitted : bad_message (without_check f.main) f.kind (response_bare f.kind f.response) ≡ false
  pub main_bytes_law : Bytes (without_check f.main)
  pub response_bytes_law : Bytes (response_bare f.kind f.response)
  pub main_again : with_check (without_check f.main) ≡ f.main
  pub response_again : response_sent f.kind (response_bare f.kind f.response) ≡ f.response
  pub same_words : frame_words nominal_clock (without_check f.main) f.kind (response_bare f.kind f.response) ≡ nominal_intervals ws f.opening f.next
  pub as_many : length (frame_words nominal_clock (without_check f.main) f.kind (response_bare f.kind f.response)) ≡ f.next - f.opening + 1

-- a frame's parts out of the lent bytes in which it was laid, without their check bytes
abbrev pub main_taken : Lengths → List ℕ → List ℕ
main_taken lengths lent = take (lengths.main - 1) lent

-- the response, which stands after the main part
abbrev pub response_taken : Response → Lengths → List ℕ → List ℕ
response_taken Without lengths lent = []
response_taken Plain lengths lent = take lengths.response (drop lengths.main lent)
response_taken Checked lengths lent = take (lengths.response - 1) (drop lengths.main lent)
