-- Definitions.
-- What contending on a row by value comes to: the bits that are sent, and how each place fares.
use Rattle.std.specs.Prelude.{ℕ, ◌≡◌, false, cond, List, map, ltb, length, replicate}
use Rattle.std.proofs.lemmas.List.Edits.{sets}
use Rattle.frame.specs.Writing.{most_words}
use Rattle.bench.specs.declared.Station.{Station}
use Rattle.bench.specs.declared.Fared.TheVariants.{Idle}
use Rattle.bench.specs.Stations.{most_stations}
use Rattle.bench.specs.Course.{out, Course, over, most_bits, play, fared_at}
use Rattle.bench.specs.Round.{entry_of, seat_of, verdict_of}
use Rattle.bench_line.specs.declared.Contended.{Contended}
use Rattle.bench_line.specs.Stated.{clipped}

-- the bits of a round on a row
unfoldable pub course_on : List Station → Course
course_on row = play most_bits false 1 (map seat_of (map entry_of row))

-- no bit at all, and every place idle
abbrev pub nobody : Course
nobody = over (replicate most_stations (out Idle))

-- the bits that are sent where these words are lent: none where they are fewer than every round fits into
unfoldable pub course_lent : List Station → List ℕ → Course
course_lent row lent = cond (ltb (length lent) most_words) nobody (course_on (map clipped row))

-- what these bits come to: their number, how each place fared, and their widths after the first two of the lent words
pub record ContendedIn (c : Course) (lent left : List ℕ) (r : Contended) : Type 0 where
  pub counts : r.bits ≡ length c.widths
  pub fares : r.verdicts ≡ map verdict_of (map fared_at c.seats)
  pub leaves : left ≡ sets lent 2 c.widths

-- what contending comes to
abbrev pub ContendedBy : List Station → List ℕ → List ℕ → Contended → Type 0
ContendedBy row lent left r = ContendedIn (course_lent row lent) lent left r

-- the answer where nobody sends
unfoldable pub nobody_sent : Contended
nobody_sent = record { bits = 0; verdicts = replicate most_stations (verdict_of Idle) }
