-- Laws.
-- Symbols as a clock sends them, and the writer's words seen so: two ends of 300, and between them the symbols of the message.
use Rattle.std.specs.Prelude.{ℕ, suc, ◌+◌, ◌*◌, ◌≡◌, refl, Bool, true, false, not, List, [], ◌∷◌, ◌++◌, length}
use Rattle.std.proofs.Common.{sym, ap, ◌∙◌, append_assoc, arith, length-append}
use Rattle.symbol.specs.declared.Symbol.{Symbol}
use Rattle.symbol.specs.declared.Clock.{Clock}
use Rattle.symbol.specs.Sending.{bit_width, end_width, sent_of, bit_symbol}
use Rattle.checkbyte.specs.Register.{with_check}
use Rattle.frame.specs.declared.Response.{Response}
use Rattle.frame.specs.declared.Response.TheVariants.{Without, Plain, Checked}
use Rattle.frame.specs.Bits.{bits_of}
use Rattle.frame.specs.Writing.{bit_widths, byte_widths, response_widths, frame_words}
use Rattle.frame.specs.Waves.{bit_symbols, byte_symbols, response_symbols, frame_symbols}
use Rattle.frame.specs.WaveLaws.{turned}
use Rattle.frame.proofs.ByteLaws.{bits_length}
use Rattle.frame.specs.Nominal.{width_of}
use Rattle.frame.specs.WriteStated.{inner_words}

-- the widths that a clock sends for symbols, from a level on
unfoldable pub sent_widths : Clock → Bool → List Symbol → List ℕ
sent_widths c active [] = []
sent_widths c active (s ∷ symbols) = width_of (sent_of c active s) ∷ sent_widths c (not active) symbols

-- The widths of symbols and of symbols after them.
pub sent_append : (c : Clock) (active : Bool) (a b : List Symbol) → sent_widths c active (a ++ b) ≡ sent_widths c active a ++ sent_widths c (turned active a) b
unfolding sent_widths
sent_append c active [] b = refl
sent_append c active (s ∷ a) b = ap (λ (l : List ℕ). width_of (sent_of c active s) ∷ l) (sent_append c (not active) a b)

sent_length : (c : Clock) (active : Bool) (symbols : List Symbol) → length (sent_widths c active symbols) ≡ length symbols
unfolding sent_widths
sent_length c active [] = refl
sent_length c active (s ∷ symbols) = ap suc (sent_length c (not active) symbols)

bit_sent : (c : Clock) (active b : Bool) → width_of (sent_of c active (bit_symbol b)) ≡ (bit_width c active b).0
bit_sent c true true = refl
bit_sent c true false = refl
bit_sent c false true = refl
bit_sent c false false = refl

-- Bits are sent with their widths.
pub bits_sent_law : (c : Clock) (active : Bool) (bits : List Bool) → sent_widths c active (bit_symbols bits) ≡ bit_widths c active bits
unfolding sent_widths bit_widths
bits_sent_law c active [] = refl
bits_sent_law c active (b ∷ bits) = rw (bit_sent c active b, bits_sent_law c (not active) bits)

-- After whole bytes the level is what it was before them.
pub level_back : (active : Bool) (bs : List ℕ) → turned active (byte_symbols bs) ≡ active
unfolding bits_of
level_back active [] = refl
level_back true (b ∷ bs) = level_back true bs
level_back false (b ∷ bs) = level_back false bs

response_sent_law : (c : Clock) (kind : Response) (rs : List ℕ) → sent_widths c false (response_symbols kind rs) ≡ response_widths c kind rs
unfolding sent_widths
response_sent_law c Without rs = refl
response_sent_law c Plain rs = ap (λ (l : List ℕ). c.sof.0 ∷ (bit_width c true true).0 ∷ l) (bits_sent_law c false (bits_of rs))
response_sent_law c Checked rs = ap (λ (l : List ℕ). c.sof.0 ∷ (bit_width c true false).0 ∷ l) (bits_sent_law c false (bits_of (with_check rs)))

-- They are the message's symbols as the clock sends them.
pub inner_sent : (c : Clock) (main : List ℕ) (kind : Response) (rs : List ℕ) → sent_widths c true (frame_symbols main kind rs) ≡ inner_words c main kind rs
unfolding sent_widths
inner_sent c main kind rs =
    ap (λ (l : List ℕ). c.sof.0 ∷ l)
    (sent_append c false (byte_symbols (with_check main)) (response_symbols kind rs)
    ∙ rw (level_back false (with_check main), bits_sent_law c false (bits_of (with_check main)), response_sent_law c kind rs))

-- The words of a frame are two ends, and between them the message's symbols as the clock sends them.
pub frame_inner : (c : Clock) (main : List ℕ) (kind : Response) (rs : List ℕ) → frame_words c main kind rs ≡ end_width.0 ∷ (inner_words c main kind rs ++ (end_width.0 ∷ []))
unfolding frame_words
frame_inner c main kind rs =
    ap (λ (l : List ℕ). end_width.0 ∷ c.sof.0 ∷ l) (sym (append_assoc (byte_widths c (with_check main)) (response_widths c kind rs) (end_width.0 ∷ [])))

-- The same, symbol by symbol.
pub frame_sent_law : (c : Clock) (main : List ℕ) (kind : Response) (rs : List ℕ) → frame_words c main kind rs ≡ end_width.0 ∷ (sent_widths c true (frame_symbols main kind rs) ++ (end_width.0 ∷ []))
frame_sent_law c main kind rs = frame_inner c main kind rs ∙ rw (inner_sent c main kind rs)

-- ## How many words

symbols_length : (bits : List Bool) → length (bit_symbols bits) ≡ length bits
symbols_length [] = refl
symbols_length (b ∷ bits) = ap suc (symbols_length bits)

-- Eight symbols for each byte.
pub bytes_length : (bs : List ℕ) → length (byte_symbols bs) ≡ 8 * length bs
bytes_length bs = symbols_length (bits_of bs) ∙ bits_length bs

-- The number of words is that of the message's symbols, and the two ends.
pub words_count : (c : Clock) (main : List ℕ) (kind : Response) (rs : List ℕ) → length (frame_words c main kind rs) ≡ length (frame_symbols main kind rs) + 2
words_count c main kind rs =
    ap length (frame_sent_law c main kind rs)
    ∙ omega (arith, length-append (sent_widths c true (frame_symbols main kind rs)) (end_width.0 ∷ []), sent_length c true (frame_symbols main kind rs))
