-- Laws.
-- How the numbers that the machine holds hang together: it counts the bytes so far, which are those before the part and
-- the part's own.
use Rattle.std.specs.Prelude.{◌≤◌, ◌≡◌, refl, ◌++◌, length}
use Rattle.std.proofs.Common.{ap, ◌∙◌, append-nil, arith, length-append}
use Rattle.frame.specs.Bits.{bytes}
use Rattle.frame.proofs.BitLaws.{bytes_none}
use Rattle.frame.specs.Standing.{plain, checked, Standing, at_sof, in_main, at_normalization, in_response}
use Rattle.frame.specs.Faults.{part_bytes}
use Rattle.frame_machine.specs.Holding.{earlier, so_far, holding}

-- It counts the bytes of both parts so far.
pub count_of : (st : Standing) → (holding st).count ≡ length (so_far st)
unfolding holding
count_of st = refl

-- all bytes are those before the part, and the part's
pub parts : (st : Standing) → so_far st ≡ earlier st ++ part_bytes st
parts at_sof = rw bytes_none
parts (in_main m) = rw bytes_none (append-nil (bytes m))
parts (at_normalization m) = refl
parts (in_response plain m r) = refl
parts (in_response checked m r) = refl

-- the part begins within the bytes so far
pub began_within : (st : Standing) → (holding st).began ≤ (holding st).count
unfolding holding
began_within st = omega (arith, ap length (parts st) ∙ length-append (earlier st) (part_bytes st))
