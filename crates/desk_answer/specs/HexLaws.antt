-- Laws.
-- A hex digit is a numeral below 10 and a capital letter from 10 on.
use Rattle.std.specs.Prelude.{ℕ, ◌+◌, ◌≤◌, ◌<◌, ◌≡◌}
use Rattle.std.proofs.Common.{lt-ltb, le-ltb}
use Rattle.desk_text.specs.Numerals.{hex_digit}

pub hex_low : (d : ℕ) → d < 10 → 48 + d ≡ hex_digit d
unfolding hex_digit
hex_low d h = rw (lt-ltb d 10 h)

pub hex_high : (d : ℕ) → 10 ≤ d → 55 + d ≡ hex_digit d
unfolding hex_digit
hex_high d h = rw (le-ltb d 10 h)
