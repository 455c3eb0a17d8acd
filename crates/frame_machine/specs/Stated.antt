-- Definitions.
-- What the theorems of this room are stated with.
use Rattle.std.specs.Prelude.{ℕ, ◌≤◌, List, ◌≡◌, length, take}
use Rattle.frame.specs.Line.{Line}
use Rattle.frame.specs.Standing.{Standing, stands}
use Rattle.frame_machine.specs.declared.Machine.{Machine}
use Rattle.frame_machine.specs.Holding.{so_far, Before}

-- The kept bytes have space for a frame, and the bytes so far stand first in them.
pub record Kept (limit : ℕ) (st : Standing) (kept : List ℕ) : Type 0 where
  pub space : limit ≤ length kept
  pub first : take (length (so_far st)) kept ≡ so_far st

-- before the interval at k the machine holds what stands before it, and the bytes so far are kept
pub record Keeping (limit : ℕ) (l : Line) (o k : ℕ) (m : Machine) (kept : List ℕ) : Type 0 where
  pub follows : Before limit l o k m
  pub keeps : Kept limit (stands l o k) kept
