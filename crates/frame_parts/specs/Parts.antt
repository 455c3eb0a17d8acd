-- Machinery.
-- The parts of a frame that closes, by what the machine holds.
use Rattle.std.specs.Prelude.{◌-◌}
use Rattle.frame.specs.declared.Response.{Response}
use Rattle.frame.specs.declared.Response.TheVariants.{Without, Plain as PlainResponse, Checked as CheckedResponse}
use Rattle.frame_machine.specs.declared.Phase.{Phase}
use Rattle.frame_machine.specs.declared.Phase.TheVariants.{Sof, Main, Normalization, Plain, Checked}
use Rattle.frame_machine.specs.declared.Machine.{Machine}
use Rattle.frame_parts.specs.declared.Parts.{Parts}

-- without a response all bytes are the main part's
abbrev pub alone : Machine → Parts
alone m = record { lengths = record { main = m.count; response = 0 }; response = Without }

-- with one, its bytes begin where the machine's part does
abbrev pub answered : Machine → Response → Parts
answered m r = record { lengths = record { main = m.began; response = m.count - m.began }; response = r }

-- the parts by the phase in which the frame closes
abbrev pub parts_in : Phase → Machine → Parts
parts_in Sof m = alone m
parts_in Main m = alone m
parts_in Normalization m = alone m
parts_in Plain m = answered m PlainResponse
parts_in Checked m = answered m CheckedResponse

-- the parts of the frame that closes where the machine stands
abbrev pub parts_of : Machine → Parts
parts_of m = parts_in m.phase m
