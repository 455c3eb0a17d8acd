-- The words of a byte, bit after bit.
use Rattle.std.specs.Prelude.{ℕ, ◌-◌, ◌/◌, ◌^◌, ◌<◌, ◌≡◌, refl, false, List, length, get_or}
use Rattle.std.proofs.Common.{◌∙◌}
use Rattle.std.proofs.Math.Nat.{div-one}
use Rattle.std.proofs.lemmas.List.FromFn.{fill_by_all}
use Rattle.symbol.specs.declared.Clock.{Clock}
use Rattle.symbol.specs.Sending.{bit_width}
use Rattle.frame.specs.Bits.{odd, bits_of_byte}
use Rattle.frame.specs.Writing.{bit_widths}
use Rattle.frame.proofs.WidthLaws.{eight_widths}

-- the width of the bit that is sent at a place of a byte: the high bit first, passive at even places
abbrev pub width_at : Clock → (b k : ℕ) → ℕ
width_at c b k = (bit_width c (odd k) (odd (b / 2 ^ (7 - k)))).0

-- Eight words, each the width at its place, are those of the byte.
pub eight_laid : (c : Clock) (b : ℕ) (ws : List ℕ) → length ws ≡ 8 → ((k : ℕ) → k < 8 → get_or ws k 0 ≡ width_at c b k)
    → ws ≡ bit_widths c false (bits_of_byte b)
eight_laid c b ws long each =
    let whole : b / 1 ≡ b = div-one b in
    fill_by_all (width_at c b) ws 8 0 long each ∙ rw (eight_widths c b, width_at, whole) refl
