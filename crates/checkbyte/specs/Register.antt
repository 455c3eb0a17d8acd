-- Definitions.
-- Document 01's check byte: "polynomial x^8+x^4+x^3+x^2+1, register first all ones, high bit first, result inverted".
-- Nothing here asks that a number is a byte: the register stays one whatever is fed.
use Rattle.std.specs.Prelude.{List, [], ◌∷◌, ◌++◌, ℕ, ◌*◌, ◌-◌, ◌/◌, ◌%◌, ◌<◌}
use Rattle.std.specs.Int.Bits.{bit_xor}

-- the polynomial below its x^8: x^4, x^3, x^2 and 1
abbrev pub polynomial : ℕ
polynomial = 0x1D

-- the register's eight ones
abbrev pub all_ones : ℕ
all_ones = 0xFF

-- where the register ends over bytes and their check byte together
abbrev pub residue : ℕ
residue = 0xC4

-- One bit: the register moves up one place, and where a 1 falls out at its top, at x^8, the polynomial takes it away.
unfoldable pub shift : ℕ → ℕ
shift r = bit_xor ((r * 2) % 256) ((r / 128 % 2) * polynomial)

-- eight bits, one after the other
unfoldable pub eight_shifts : ℕ → ℕ
unfolding shift
eight_shifts r = shift (shift (shift (shift (shift (shift (shift (shift r)))))))

-- One byte, "high bit first": it is added to the register, and its eight bits move through, the highest first.
unfoldable pub step_of : ℕ → ℕ → ℕ
unfolding eight_shifts
step_of r b = eight_shifts (bit_xor r b)

-- the register after the bytes, from r
unfoldable pub register_from : ℕ → List ℕ → ℕ
register_from r [] = r
register_from r (b ∷ bs) = register_from (step_of r b) bs

-- "register first all ones"
abbrev pub register_of : List ℕ → ℕ
register_of bs = register_from all_ones bs

-- "result inverted"
abbrev pub check_from : ℕ → List ℕ → ℕ
check_from r bs = all_ones - register_from r bs

-- the check byte that is sent after the bytes
unfoldable pub check_of : List ℕ → ℕ
check_of bs = check_from all_ones bs

-- bytes with their check byte after them, as they go out on the line
abbrev pub with_check : List ℕ → List ℕ
with_check bs = bs ++ (check_of bs ∷ [])

-- every number of the list is a byte, as every element of a slice of u8 is
abbrev pub Bytes : List ℕ → Type 0
Bytes [] = Unit {0}
Bytes (b ∷ bs) = (b < 256) × Bytes bs
