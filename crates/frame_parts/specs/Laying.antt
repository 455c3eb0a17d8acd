-- Definitions.
-- The bytes of a frame that closes, laid into lent bytes.
use Rattle.std.specs.Prelude.{ℕ, ◌≤◌, ◌≡◌, cond, List, ◌++◌, leb, length, take, drop}
use Rattle.std.proofs.Common.{ap, ◌∙◌, length-take-le, le-leb}
use Rattle.std.proofs.Math.Seq.{take-length}
use Rattle.frame.specs.Faults.{most_bytes}

-- the first n of the kept bytes, then the lent ones' own
abbrev pub laid : ℕ → List ℕ → List ℕ → List ℕ
laid n kept lent = take n kept ++ drop n lent

-- the same where so many are kept and lent; otherwise the lent bytes stay as they are
unfoldable pub laid_of : ℕ → List ℕ → List ℕ → List ℕ
laid_of n kept lent = cond (leb n most_bytes) (cond (leb n (length lent)) (laid n kept lent) lent) lent

-- Where enough is lent for as many as a frame can have, they are laid.
pub laid_enough : (n : ℕ) (kept lent : List ℕ) → n ≤ most_bytes → n ≤ length lent → laid_of n kept lent ≡ laid n kept lent
unfolding laid_of
laid_enough n kept lent h k = rw (le-leb n most_bytes h, le-leb n (length lent) k)

-- Copying the first n of them lays them.
pub laid_first : (n : ℕ) (kept lent : List ℕ) → n ≤ length kept
    → take (length (take n kept)) (take n kept) ++ drop (length (take n kept)) lent ≡ laid n kept lent
laid_first n kept lent h =
    ap (λ (l : List ℕ). l ++ drop (length (take n kept)) lent) (take-length (take n kept))
    ∙ ap (λ (j : ℕ). take n kept ++ drop j lent) (length-take-le n kept h)
