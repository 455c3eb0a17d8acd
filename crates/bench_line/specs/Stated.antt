-- Definitions.
-- What the theorems of this room are stated with.
use Rattle.std.specs.Prelude.{min}
use Rattle.bench.specs.declared.Station.{Station}
use Rattle.bench.specs.Stations.{most_stored}

-- A station of a stored length past 11 is taken as one that stores 11 bytes; a sound one is as it is.
abbrev pub clipped : Station → Station
clipped s = record { clock = s.clock; bytes = s.bytes; len = min s.len most_stored }
