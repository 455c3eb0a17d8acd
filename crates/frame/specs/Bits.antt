-- Definitions.
-- Bytes and the bits that carry them: document 01, "bytes with the high bit first". A bit is a Bool: true is a 1.
use Rattle.std.specs.Prelude.{ℕ, ◌+◌, ◌*◌, ◌/◌, ◌%◌, Bool, true, false, List, [], ◌∷◌, ◌++◌, eqb}

-- the number that a bit is
abbrev pub value : Bool → ℕ
value true = 1
value false = 0

-- eight bits make a byte, "the high bit first"
abbrev pub byte : Bool → Bool → Bool → Bool → Bool → Bool → Bool → Bool → ℕ
byte a b c d e f g h = 128 * value a + 64 * value b + 32 * value c + 16 * value d + 8 * value e + 4 * value f + 2 * value g + value h

-- The bytes that bits make, taken eight at a time. Bits of a byte that is not whole yet make none.
unfoldable pub bytes : List Bool → List ℕ
bytes [] = []
bytes (a ∷ []) = []
bytes (a ∷ b ∷ []) = []
bytes (a ∷ b ∷ c ∷ []) = []
bytes (a ∷ b ∷ c ∷ d ∷ []) = []
bytes (a ∷ b ∷ c ∷ d ∷ e ∷ []) = []
bytes (a ∷ b ∷ c ∷ d ∷ e ∷ f ∷ []) = []
bytes (a ∷ b ∷ c ∷ d ∷ e ∷ f ∷ g ∷ []) = []
bytes (a ∷ b ∷ c ∷ d ∷ e ∷ f ∷ g ∷ h ∷ rest) = byte a b c d e f g h ∷ bytes rest

-- the last bit of a number
abbrev pub odd : ℕ → Bool
odd n = eqb (n % 2) 1

-- the eight bits of a byte, the high bit first
abbrev pub bits_of_byte : ℕ → List Bool
bits_of_byte n =
    odd (n / 128) ∷ odd (n / 64) ∷ odd (n / 32) ∷ odd (n / 16) ∷ odd (n / 8) ∷ odd (n / 4) ∷ odd (n / 2) ∷ odd n ∷ []

-- the bits of bytes, in their order
unfoldable pub bits_of : List ℕ → List Bool
bits_of [] = []
bits_of (n ∷ ns) = bits_of_byte n ++ bits_of ns
