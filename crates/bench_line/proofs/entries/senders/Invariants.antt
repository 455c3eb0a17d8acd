use Rattle.std.proofs.Common.{◌≡◌, map, take, length, false}
use Rattle.bench.specs.Stations.{most_stations}
use Rattle.bench_line.specs.Lanes.{seats_at}
use Rattle.bench_line.specs.Entries.{place_of}
use Rattle.bench_line.proofs.entries.senders.Given as goal

abbrev pub invariant-loop-i : goal.invariant-loop-i
invariant-loop-i l = (length l.senders ≡ most_stations) × seats_at false 0 (take l.i l.senders) ≡ map place_of (take l.i l.row)
