-- Laws.
-- What the type says of a station that a function is given: its array is whole.
use Rattle.std.specs.Prelude.{◌≡◌, [], ◌∷◌, length}
use denote.Laws.{Is}
use denote.Struct.Declared.{row}
use denote.Struct.Laws as laws
use Rattle.bench.specs.declared.Station.{Station}
use Rattle.bench.specs.Stations.{most_stored}
use Rattle.bench.specs.contracts.Station as station
use Rattle.bench.proofs.Station.TheLaws as station-laws

-- A station has its 11 bytes.
pub whole : (s : Station) → Is (row station.the_type) s (laws.val station.the_type station-laws.the_laws s ∷ []) → length s.bytes ≡ most_stored
whole s is = (laws.owed station.the_type station-laws.the_laws s _ is).1.0.1.0.1
