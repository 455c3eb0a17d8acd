-- Machinery.
-- Words that are laid at the front of lent memory.
use Rattle.std.specs.Prelude.{ℕ, ◌≡◌, ◌≤◌, List, ◌++◌, length, drop}

-- they have space there
abbrev pub Fits : List ℕ → List ℕ → Type 0
Fits ws lent = length ws ≤ length lent

-- They stand first, what stood after them is unchanged, and their number is told.
pub record Lays (ws old new : List ℕ) (count : ℕ) : Type 0 where
  pub laid : new ≡ ws ++ drop (length ws) old
  pub counted : count ≡ length ws
