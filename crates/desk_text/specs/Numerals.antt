-- Definitions.
-- Numbers and bytes as the desk prints them, and bytes as they are read again.
use Rattle.std.specs.Prelude.{ℕ, zero, suc, ◌+◌, ◌-◌, ◌*◌, ◌/◌, ◌%◌, cond, List, [], ◌∷◌, ◌++◌, ltb}

-- the byte of a decimal digit
abbrev pub numeral : ℕ → ℕ
numeral d = 48 + d

-- n in decimal, no leading zero, in at most k + 1 digits
unfoldable pub decimal_in : ℕ → ℕ → List ℕ
decimal_in zero n = numeral (n % 10) ∷ []
decimal_in (suc k) n = cond (ltb n 10) (numeral n ∷ []) (decimal_in k (n / 10) ++ (numeral (n % 10) ∷ []))

-- a number of the machine's has at most 20 digits
abbrev pub decimal : ℕ → List ℕ
decimal n = decimal_in 19 n

-- `0` to `9`, then `A` to `F`
unfoldable pub hex_digit : ℕ → ℕ
hex_digit d = cond (ltb d 10) (48 + d) (55 + d)

-- "upper case hex": two digits for each byte
unfoldable pub hex : List ℕ → List ℕ
hex [] = []
hex (b ∷ bs) = hex_digit (b / 16) ∷ hex_digit (b % 16) ∷ hex bs

-- what a hex digit stands for
unfoldable pub hex_value : ℕ → ℕ
hex_value x = cond (ltb x 58) (x - 48) (x - 55)

-- the bytes that hex digits spell, two digits for each
unfoldable pub hex_spelt : List ℕ → List ℕ
hex_spelt [] = []
hex_spelt (x ∷ []) = []
hex_spelt (x ∷ y ∷ ds) = (16 * hex_value x + hex_value y) ∷ hex_spelt ds
