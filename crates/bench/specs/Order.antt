-- Definitions.
-- Which of two messages is ahead: document 01, "message X is ahead of Y when, at the first place where their bits with
-- checks differ, X has 0 and Y has 1, or X still has a bit and Y has none."
use Rattle.std.specs.Prelude.{◌≡◌, Bool, true, false, [], ◌∷◌, ◌++◌}
use Rattle.bench.specs.Stations.{Bits}

-- The sentence as it stands. Up to the first place where they differ the two have the same bits.
pub data Ahead (x y : Bits) : Type 0 where
  -- "X has 0 and Y has 1"
  has_zero : (same xs ys : Bits) → x ≡ same ++ (false ∷ xs) → y ≡ same ++ (true ∷ ys) → Ahead x y
  -- "X still has a bit and Y has none"
  goes_on : (b : Bool) (xs : Bits) → x ≡ y ++ (b ∷ xs) → Ahead x y

-- The same as a test, bit for bit. No bits, which is what an empty station has, are ahead of nothing.
unfoldable pub ahead : Bits → Bits → Bool
ahead [] y = false
ahead (b ∷ x) [] = true
ahead (false ∷ x) (true ∷ y) = true
ahead (true ∷ x) (false ∷ y) = false
ahead (false ∷ x) (false ∷ y) = ahead x y
ahead (true ∷ x) (true ∷ y) = ahead x y

-- whether two messages have the same bits
abbrev pub same_bits : Bits → Bits → Bool
same_bits [] [] = true
same_bits [] (c ∷ y) = false
same_bits (b ∷ x) [] = false
same_bits (true ∷ x) (true ∷ y) = same_bits x y
same_bits (true ∷ x) (false ∷ y) = false
same_bits (false ∷ x) (true ∷ y) = false
same_bits (false ∷ x) (false ∷ y) = same_bits x y
