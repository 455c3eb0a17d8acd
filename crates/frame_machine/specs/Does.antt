-- Laws.
-- What one interval does, where the machine holds what stands before it: it names exactly document 01's fault, or closes the
-- frame at an end, or holds what stands before the next interval. What follows, reading whole or live, goes by this alone.
use Rattle.std.specs.Prelude.{ℕ, ◌<◌, ◌≡◌, true, false, [], ◌∷◌, ◌++◌, length}
use Rattle.frame.specs.declared.Fault.{Fault}
use Rattle.frame.specs.Signs.{Sign, is_end}
use Rattle.frame.specs.ReadPromise.{fault_number}
use Rattle.frame.specs.Standing.{Standing, counted, moved}
use Rattle.frame.specs.Faults.{fault}
use Rattle.frame_machine.specs.declared.Stepped.{Stepped}
use Rattle.frame_machine.specs.declared.Event.TheVariants.{Going, Byte}
use Rattle.frame_machine.specs.Steps.{faulty, closing}
use Rattle.frame_machine.specs.Holding.{holding, so_far}

-- it is at fault, it closes the frame and completes no bit, it leaves the bytes as they are, or it brings a byte more
pub data Does (limit : ℕ) (st : Standing) (s : Sign) (r : Stepped) : Type 0 where
  faults : (f : Fault) → fault limit st s ≡ fault_number f → r ≡ faulty (holding st) f → Does limit st s r
  closes : fault limit st s ≡ 0 → is_end s ≡ true → r ≡ closing (holding st) → counted st s ≡ st → Does limit st s r
  goes : fault limit st s ≡ 0 → is_end s ≡ false → r ≡ record { machine = holding (moved st s); event = Going }
      → so_far (moved st s) ≡ so_far st → Does limit st s r
  stores : (b : ℕ) → fault limit st s ≡ 0 → is_end s ≡ false → r ≡ record { machine = holding (moved st s); event = Byte b }
      → length (so_far st) < limit → so_far (moved st s) ≡ so_far st ++ (b ∷ []) → Does limit st s r
