-- Definitions.
-- The check byte bit by bit, as a shift register works it out: no byte is added to the register at once.
use Rattle.std.specs.Prelude.{List, [], ◌∷◌, ℕ, ◌+◌, ◌*◌, ◌-◌, ◌/◌, ◌%◌}
use Rattle.std.specs.Int.Bits.{bit_xor}
use Rattle.checkbyte.specs.Register.{polynomial, all_ones}

-- the bits of a byte, "high bit first"
abbrev pub high_first : ℕ → List ℕ
high_first b = b / 128 % 2 ∷ b / 64 % 2 ∷ b / 32 % 2 ∷ b / 16 % 2 ∷ b / 8 % 2 ∷ b / 4 % 2 ∷ b / 2 % 2 ∷ b % 2 ∷ []

-- One bit: the register moves up one place. The bit that falls out at its top and the bit that comes in are added, without carry,
-- and where the sum is 1 the polynomial is added, without carry, to the register.
unfoldable pub bit_in : ℕ → ℕ → ℕ
bit_in r bit = bit_xor ((r * 2) % 256) ((r / 128 + bit) % 2 * polynomial)

-- bits, one after the other
unfoldable pub bits_in : ℕ → List ℕ → ℕ
bits_in r [] = r
bits_in r (bit ∷ bits) = bits_in (bit_in r bit) bits

-- the register after the bits of bytes, from r
unfoldable pub register_bits : ℕ → List ℕ → ℕ
register_bits r [] = r
register_bits r (b ∷ bs) = register_bits (bits_in r (high_first b)) bs

-- "register first all ones, .. result inverted"
abbrev pub check_bits : List ℕ → ℕ
check_bits bs = all_ones - register_bits all_ones bs
