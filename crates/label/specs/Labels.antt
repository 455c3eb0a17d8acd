-- Definitions.
-- What a label is: document 01, "The desk's text".
use Rattle.std.specs.Prelude.{ℕ, Bool, true, ◌&&◌, ◌||◌, List, [], ◌∷◌, leb, eqb, length}

-- low up to high
abbrev pub among : ℕ → ℕ → ℕ → Bool
among low high x = leb low x && leb x high

-- every byte passes a test
unfoldable pub every : (ℕ → Bool) → List ℕ → Bool
every test [] = true
every test (x ∷ xs) = test x && every test xs

-- ## Labels

-- "ASCII letters, digits, `-` or `_`"
unfoldable pub label_byte : ℕ → Bool
label_byte x = among 97 122 x || (among 65 90 x || (among 48 57 x || (eqb x 45 || eqb x 95)))

-- the most bytes of a label
abbrev pub most_label : ℕ
most_label = 16

-- "Labels are 1..16 ASCII letters, digits, `-` or `_`"
unfoldable pub is_label : List ℕ → Bool
is_label l = among 1 most_label (length l) && every label_byte l
