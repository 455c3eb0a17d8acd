-- Laws.
-- What the machine holds where a frame closes tells both lengths and the response.
use Rattle.std.specs.Prelude.{ℕ, ◌-◌, ◌≡◌, List, ◌++◌, length}
use Rattle.std.proofs.Common.{append-nil, arith, length-append}
use Rattle.frame.specs.Bits.{bytes}
use Rattle.frame.proofs.BitLaws.{bytes_none}
use Rattle.frame.specs.Standing.{plain, checked, Standing, at_sof, in_main, at_normalization, in_response}
use Rattle.frame.specs.Faults.{facts, main_bytes, response_bytes}
use Rattle.frame_parts.specs.declared.Parts.{Parts}
use Rattle.frame_machine.specs.Holding.{holding}
use Rattle.frame_parts.specs.Parts.{parts_of}

past : (a b : List ℕ) → length (a ++ b) - length a ≡ length b
past a b = rw (length-append a b) (omega arith)

-- the parts that stand before an interval
abbrev pub parts_at : Standing → Parts
parts_at st =
    record { lengths = record { main = length (main_bytes st); response = length (response_bytes st) }; response = (facts st).answered }

-- The machine that holds what stands before an interval tells of those parts.
pub parts_held : (st : Standing) → parts_of (holding st) ≡ parts_at st
unfolding holding
parts_held at_sof = rw bytes_none
parts_held (in_main m) = rw (bytes_none, append-nil (bytes m))
parts_held (at_normalization m) = rw (bytes_none, append-nil (bytes m))
parts_held (in_response plain m r) = rw (past (bytes m) (bytes r))
parts_held (in_response checked m r) = rw (past (bytes m) (bytes r))
