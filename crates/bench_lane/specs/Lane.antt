-- Definitions.
-- One place of a round as the code keeps it: what it asks at a bit, and what becomes of it.
use Rattle.std.specs.Prelude.{ℕ, ◌-◌, ◌/◌, ◌%◌, ◌^◌, min, max, Bool, cond, eqb, leb, ◌||◌, is_some, Option, None, Some}
use Rattle.std.specs.Bool.{beq}
use Rattle.symbol.specs.Sending.{bit_width}
use Rattle.frame.specs.Bits.{odd}
use Rattle.bench_lane.specs.declared.Lane.{Lane}
use Rattle.bench_lane.specs.declared.Ask.{Ask}
use Rattle.bench_lane.specs.declared.Ask.TheVariants.{Out, Ended, Bit}

-- bit j of bytes lies in this bit of its byte, the high bit first
unfoldable pub bit_of : ℕ → ℕ → Bool
bit_of byte j = odd (byte / 2 ^ (7 - j % 8))

-- a place asks for a bit of the width that its clock has for it
abbrev pub bit_asked : Lane → Bool → Bool → Ask
bit_asked l active one = Bit one (bit_width l.clock active one).0

-- what a place asks of the line at bit j, from 0 on, with the byte that the bit lies in
unfoldable pub ask_of : Lane → ℕ → Bool → ℕ → Ask
ask_of l byte active j =
    cond (is_some l.lost || eqb l.count 0) Out
    (cond (leb l.count j) Ended
    (bit_asked l active (bit_of byte j)))

-- the bit at which a place has lost, once bit k was on the line
abbrev pub lost_by : ℕ → Bool → Ask → Option ℕ → Option ℕ
lost_by k one Out lost = lost
lost_by k one Ended lost = Some k
lost_by k one (Bit own width) lost = cond (beq own one) lost (Some k)

-- of a width and those asked for before it, the one that stands on the line: the longest active, the shortest passive one
abbrev pub outlasts_of : Option ℕ → ℕ → Bool → ℕ
outlasts_of None width active = width
outlasts_of (Some other) width active = cond active (max width other) (min width other)

-- one place more; only one that still sends a bit has a say
abbrev pub taken_in : Bool → Option ℕ → Ask → Option ℕ
taken_in active asked Out = asked
taken_in active asked Ended = asked
taken_in active asked (Bit own width) = Some (outlasts_of asked width active)
