-- Definitions.
-- The desk's text from the bytes up: what parts them, and what a width is. What a label is stands in the room `label`.
use Rattle.std.specs.Prelude.{ℕ, ◌+◌, ◌-◌, ◌*◌, Bool, true, false, cond, not, ◌&&◌, ◌||◌, List, [], ◌∷◌, leb, eqb, ltb, length, get_or}
use Rattle.label.specs.Labels.{among, every}

-- ## Pieces

-- the byte that closes a line
abbrev pub newline : ℕ
newline = 10

-- the byte that parts fields
abbrev pub tab : ℕ
tab = 9

-- a byte before the first of several pieces
abbrev pub longer : ℕ → List (List ℕ) → List (List ℕ)
longer x [] = (x ∷ []) ∷ []
longer x (p ∷ ps) = (x ∷ p) ∷ ps

-- What stands between the bytes b: at least one piece, and a piece may be empty.
unfoldable pub pieces : ℕ → List ℕ → List (List ℕ)
pieces b [] = [] ∷ []
pieces b (x ∷ xs) = cond (eqb x b) ([] ∷ pieces b xs) (longer x (pieces b xs))

-- "fields parted by tabs"
abbrev pub fields : List ℕ → List (List ℕ)
fields l = pieces tab l

-- ## Words

-- two texts are the same, byte by byte
unfoldable pub same : List ℕ → List ℕ → Bool
same [] [] = true
same [] (y ∷ ys) = false
same (x ∷ xs) [] = false
same (x ∷ xs) (y ∷ ys) = eqb x y && same xs ys

-- ## Widths

-- `0` to `9`
unfoldable pub digit : ℕ → Bool
digit x = among 48 57 x

-- the number that digits spell, after those that spell n
unfoldable pub spells : ℕ → List ℕ → ℕ
spells n [] = n
spells n (x ∷ xs) = spells (n * 10 + (x - 48)) xs

-- the number that digits spell
abbrev pub spelt : List ℕ → ℕ
spelt l = spells 0 l

-- one more than the greatest u32
abbrev pub past_u32 : ℕ
past_u32 = 4294967296

-- "no .. leading zero (zero itself is `0`)"
abbrev pub no_leading_zero : List ℕ → Bool
no_leading_zero l = eqb (length l) 1 || not (eqb (get_or l 0 0) 48)

-- "Widths are decimal u32, no sign or leading zero"
unfoldable pub is_width : List ℕ → Bool
is_width l = leb 1 (length l) && (no_leading_zero l && (every digit l && ltb (spelt l) past_u32))
