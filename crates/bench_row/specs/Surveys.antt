-- Machinery.
-- What is asked of a whole row before a call on it is taken.
use Rattle.std.specs.Prelude.{ℕ, max, cond, List, map}
use Rattle.bench.specs.declared.Station.{Station}
use Rattle.bench.specs.Stations.{empty}
use Rattle.bench.specs.Course.{longest}
use Rattle.bench.specs.Round.{entry_of, sofs_asked}
use Rattle.bench.specs.Calls.{all_sound, all_empty}
use Rattle.bench_row.specs.declared.survey.Survey.{Survey}

-- the SOF that a station asks for: none where it is empty
abbrev pub sof_of : Station → ℕ
sof_of s = cond (empty s) 0 s.clock.sof.0

-- the longer of a SOF and the one that a station asks for
abbrev pub longer : ℕ → Station → ℕ
longer sof s = max sof (sof_of s)

-- what is asked of a row
abbrev pub survey_of : List Station → Survey
survey_of row = record { sound = all_sound row; empty = all_empty row; sof = longest (sofs_asked (map entry_of row)) }
