-- Laws.
-- The senders stand for the places of a round: which place of the definition each of them is, at each bit, what it asks, and
-- how it fares.
use Rattle.std.specs.Prelude.{ℕ, ◌/◌, Bool, cond, List, [], ◌∷◌, map, eqb, get_or, take, drop, Option, None, Some}
use Rattle.frame.specs.Bits.{bits_of}
use Rattle.bench.specs.declared.Fared.{Fared}
use Rattle.bench.specs.declared.Fared.TheVariants.{Idle, Through, Lost}
use Rattle.bench.specs.declared.Verdict.{Verdict}
use Rattle.bench.specs.Course.{Pulse, Seat, out, on, widths_of, lasts}
use Rattle.bench.specs.Round.{pulses_of, verdict_of}
use Rattle.bench_lane.specs.declared.Ask.{Ask}
use Rattle.bench_lane.specs.Lane.{ask_of, taken_in}
use Rattle.bench_line.specs.declared.sender.Sender.{Sender}

-- the pulses that a place has left from bit j on, from 0 on
unfoldable pub rest_at : Bool → ℕ → Sender → List Pulse
rest_at active j l = pulses_of l.lane.clock active (drop j (take l.lane.count (bits_of l.frame)))

-- a place with a message, that lost there or has these pulses left
abbrev pub seat_in : Option ℕ → List Pulse → Seat
seat_in (Some k) ps = out (Lost k)
seat_in None ps = on ps

-- the place of the definition that a sender stands for, before bit j
unfoldable pub seat_at : Bool → ℕ → Sender → Seat
seat_at active j l = cond (eqb l.lane.count 0) (out Idle) (seat_in l.lane.lost (rest_at active j l))

-- the same of all of them
abbrev pub seats_at : Bool → ℕ → List Sender → List Seat
seats_at active j ls = map (seat_at active j) ls

-- what a place asks at bit j, from 0 on: by the byte in which the bit lies
unfoldable pub ask_at : Bool → ℕ → Sender → Ask
ask_at active j l = ask_of l.lane (get_or l.frame (j / 8) 0) active j

-- what all of them ask together
unfoldable pub all_asked : Bool → List Ask → Option ℕ
all_asked active [] = None
all_asked active (ask ∷ asks) = taken_in active (all_asked active asks) ask

-- the width that the line has where these are asked for; none where nobody asks
abbrev pub asked_by : Bool → List Pulse → Option ℕ
asked_by active [] = None
asked_by active (p ∷ ps) = Some (lasts active (widths_of (p ∷ ps)))

-- how a place with a message fared, that lost there or did not
abbrev pub fared_in : Option ℕ → Fared
fared_in (Some k) = Lost k
fared_in None = Through

-- how a sender fared
abbrev pub fared_of : Sender → Fared
fared_of l = cond (eqb l.lane.count 0) Idle (fared_in l.lane.lost)

-- its verdict
abbrev pub verdict_at : Sender → Verdict
verdict_at l = verdict_of (fared_of l)
