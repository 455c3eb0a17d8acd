-- Machinery.
-- A row by value, as it is gathered from a lent one and put back.
use Rattle.std.specs.Prelude.{List, ◌++◌, length, take, replicate}
use Rattle.bench.specs.declared.Station.{Station}
use Rattle.bench.specs.Stations.{most_stations, blank}
use Rattle.bench_row.specs.declared.HeldRow.{HeldRow}

-- the held row of a lent one
unfoldable pub held_of : List Station → HeldRow
held_of row = record { at = take most_stations (row ++ replicate most_stations blank); count = length row }
