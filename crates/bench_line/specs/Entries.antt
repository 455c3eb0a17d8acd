-- Laws.
-- What the stations bring to a round.
use Rattle.std.specs.Prelude.{ℕ, ◌*◌, ◌-◌, ◌≤◌, ◌<◌, ◌≡◌, cond, List, ◌++◌, length, get_or, replicate, None}
use Rattle.checkbyte.specs.Register.{with_check}
use Rattle.bench.specs.declared.Station.{Station}
use Rattle.bench.specs.Stations.{most_stations, most_stored, stored, empty, blank}
use Rattle.bench.specs.Course.{Seat}
use Rattle.bench.specs.Round.{entry_of, seat_of}
use Rattle.bench_lane.specs.declared.Lane.{Lane}
use Rattle.bench_line.specs.Stated.{clipped}

-- from place n on no station holds a message
pub record Holders (row : List Station) (n : ℕ) : Type 0 where
  pub few : n ≤ most_stations
  pub none : (i : ℕ) → n ≤ i → i < most_stations → (get_or row i blank).len ≡ 0

-- how many bits a station has to send, with those of its check byte: none where it is empty
unfoldable pub count_of : Station → ℕ
count_of s = cond (empty s) 0 (8 * length (with_check (stored s)))

-- the bytes that it sends, filled up to 12
unfoldable pub frame_of : Station → List ℕ
frame_of s = with_check (stored s) ++ replicate (most_stored - length (stored s)) 0

-- how many bits it then has to send
abbrev pub clipped_count : Station → ℕ
clipped_count s = count_of (clipped s)

-- the bytes that it then sends
abbrev pub clipped_frame : Station → List ℕ
clipped_frame s = frame_of (clipped s)

-- the lane of a station as the bits begin
abbrev pub lane_in : Station → Lane
lane_in s = record { count = clipped_count s; clock = s.clock; lost = None }

-- the place that a station takes as the bits begin
abbrev pub place_of : Station → Seat
place_of s = seat_of (entry_of (clipped s))
