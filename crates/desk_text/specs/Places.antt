-- Definitions.
-- The first place of a byte in a text, and the part of a text between two places.
use Rattle.std.specs.Prelude.{ℕ, zero, suc, Bool, true, false, List, [], ◌∷◌, eqb, take, drop}

-- the place in a text whose first byte is looked at: here, or one more than in what follows
unfoldable pub index_after : Bool → ℕ → ℕ
index_after true n = zero
index_after false n = suc n

-- the place of the first b in a text, or the text's length where there is none
unfoldable pub index_of : ℕ → List ℕ → ℕ
index_of b [] = zero
index_of b (x ∷ xs) = index_after (eqb x b) (index_of b xs)

-- the part from place a to before place b
unfoldable pub slice : ℕ → ℕ → List ℕ → List ℕ
slice a b s = drop a (take b s)
