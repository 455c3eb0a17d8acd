-- Laws.
-- Senders and places agree, bit by bit: what a sender asks and what becomes of it is what the definition says of its place.
use Rattle.std.specs.Prelude.{ℕ, suc, ◌+◌, ◌*◌, ◌/◌, ◌%◌, ◌≤◌, ◌<◌, ◌≡◌, refl, Bool, true, false, cond, not, ◌||◌, List, [], ◌∷◌, map, max, eqb, leb, length, take, get_or, Option, None, Some, is_some}
use Rattle.std.proofs.Common.{add-one, ap, ap₂, ◌∙◌, arith, length-take, drop_of_length-le, drop-cons, leb-true, leb-false}
use Rattle.std.proofs.Math.Seq.{get_or-take}
use Rattle.std.specs.Bool.{beq}
use Rattle.symbol.specs.Sending.{bit_width}
use Rattle.frame.specs.Bits.{bits_of}
use Rattle.frame.proofs.ByteLaws.{bits_length, bits_at}
use Rattle.bench.specs.declared.Fared.TheVariants.{Idle, Lost}
use Rattle.bench.specs.Course.{Pulse, Seat, out, on, asked, shortest, longest, heard, fared_at}
use Rattle.bench.specs.Round.{pulses_of}
use Rattle.bench_line.specs.declared.sender.Sender.{Sender}
use Rattle.bench_lane.specs.declared.Ask.{Ask}
use Rattle.bench_lane.specs.declared.Ask.TheVariants.{Out, Ended, Bit}
use Rattle.bench_lane.specs.Lane.{bit_of, ask_of, lost_by, taken_in}
use Rattle.bench_line.specs.Lanes.{rest_at, seat_in, seat_at, seats_at, ask_at, all_asked, asked_by, fared_in, fared_of}

-- what a place of the definition asks
abbrev pub ask_for : Seat → Ask
ask_for (out f) = Out
ask_for (on []) = Ended
ask_for (on (p ∷ ps)) = Bit p.bit p.width

-- Bit j of bytes.
pub bit_at : (ns : List ℕ) (j : ℕ) → j < 8 * length ns → get_or (bits_of ns) j false ≡ bit_of (get_or ns (j / 8) 0) j
unfolding bit_of
bit_at ns j h =
    let e : j ≡ j / 8 * 8 + j % 8 = omega arith in
    ap (λ x. get_or (bits_of ns) x false) e ∙ bits_at ns (j / 8) (j % 8) (omega arith) (omega arith)

module _ (l : Sender) (active : Bool) (j : ℕ) where
  -- ## What it has left

  bit_now : Bool
  bit_now = bit_of (get_or l.frame (j / 8) 0) j

  rest_none : l.lane.count ≤ j → rest_at active j l ≡ []
  unfolding rest_at pulses_of
  rest_none h =
      let n : length (take l.lane.count (bits_of l.frame)) ≤ j = rw (length-take l.lane.count (bits_of l.frame)) (omega arith) in
      rw (drop_of_length-le (take l.lane.count (bits_of l.frame)) n)

  rest_more : j < l.lane.count → rest_at active j l ≡ record { bit = bit_now; width = (bit_width l.lane.clock active bit_now).0 } ∷ rest_at (not active) (suc j) l
  unfolding rest_at pulses_of bit_now
  rest_more h =
      let held = l.held in
      let n : j < length (take l.lane.count (bits_of l.frame)) = rw (length-take l.lane.count (bits_of l.frame), bits_length l.frame) (omega arith) in
      let e : get_or (take l.lane.count (bits_of l.frame)) j false ≡ bit_now = get_or-take l.lane.count (bits_of l.frame) j false h ∙ bit_at l.frame j (omega arith) in
      rw (drop-cons (take l.lane.count (bits_of l.frame)) j false n, e)

  -- What it asks.
  pub ask_is : ask_at active j l ≡ ask_for (seat_at active j l)
  unfolding ask_at ask_of seat_at bit_now
  ask_is = go l.lane.lost (eqb l.lane.count 0) (leb l.lane.count j) refl
    where
      wants : Ask
      wants = Bit bit_now (bit_width l.lane.clock active bit_now).0

      go : (lost : Option ℕ) (a d : Bool) → leb l.lane.count j ≡ d
          → cond (is_some lost || a) Out (cond d Ended wants) ≡ ask_for (cond a (out Idle) (seat_in lost (rest_at active j l)))
      go (Some k) true d e = refl
      go (Some k) false d e = refl
      go None true d e = refl
      go None false true e = rw (rest_none (leb-true l.lane.count j e))
      go None false false e = rw (rest_more (leb-false l.lane.count j e))

  -- What becomes of it.
  pub heard_is : (one : Bool) (y : Sender) → y.lane ≡ record l.lane { lost = lost_by (j + 1) one (ask_at active j l) l.lane.lost } → y.frame ≡ l.frame
      → seat_at (not active) (j + 1) y ≡ heard (j + 1) one (seat_at active j l)
  unfolding seat_at rest_at
  heard_is one y e f = rw (e, f, add-one j, ask_is) (go l.lane.lost (eqb l.lane.count 0) (leb l.lane.count j) refl)
    where
      rest : List Pulse
      rest = rest_at (not active) (suc j) l

      -- a place that remained: it goes on, or loses here
      stops : (t : Bool) → seat_in (cond t None (Some (suc j))) rest ≡ cond t (on rest) (out (Lost (suc j)))
      stops true = refl
      stops false = refl

      go : (lost : Option ℕ) (a d : Bool) → leb l.lane.count j ≡ d
          → cond a (out Idle) (seat_in (lost_by (suc j) one (ask_for (cond a (out Idle) (seat_in lost (rest_at active j l)))) lost) rest)
          ≡ heard (suc j) one (cond a (out Idle) (seat_in lost (rest_at active j l)))
      go lost true d e = refl
      go (Some k) false d e = refl
      go None false true e = rw (rest_none (leb-true l.lane.count j e))
      go None false false e = rw (rest_more (leb-false l.lane.count j e)) (stops (beq bit_now one))

  -- How it fares.
  pub fares_is : fared_at (seat_at active j l) ≡ fared_of l
  unfolding seat_at
  fares_is = go l.lane.lost (eqb l.lane.count 0)
    where
      go : (lost : Option ℕ) (a : Bool) → fared_at (cond a (out Idle) (seat_in lost (rest_at active j l))) ≡ cond a Idle (fared_in lost)
      go lost true = refl
      go (Some k) false = refl
      go None false = refl

-- ## All places

module _ (active : Bool) (j : ℕ) where
  -- What the senders ask is what the places of the definition ask ..
  pub asks_are : (ls : List Sender) → map (ask_at active j) ls ≡ map ask_for (seats_at active j ls)
  asks_are [] = refl
  asks_are (l ∷ ls) = ap₂ (λ (x : Ask) (xs : List Ask). x ∷ xs) (ask_is l active j) (asks_are ls)

  -- .. once they have heard a bit they stand for the places that have ..
  pub heard_are : (one : Bool) (hears : Sender → Sender)
      → ((l : Sender) → ((hears l).lane ≡ record l.lane { lost = lost_by (j + 1) one (ask_at active j l) l.lane.lost }) × ((hears l).frame ≡ l.frame))
      → (ls : List Sender) → seats_at (not active) (j + 1) (map hears ls) ≡ map (heard (j + 1) one) (seats_at active j ls)
  heard_are one hears so [] = refl
  heard_are one hears so (l ∷ ls) =
      ap₂ (λ (x : Seat) (xs : List Seat). x ∷ xs) (heard_is l active j one (hears l) (so l).0 (so l).1) (heard_are one hears so ls)

  -- .. and how they fare stands in the bits at which they lost.
  pub fares_are : (ls : List Sender) → map fared_at (seats_at active j ls) ≡ map fared_of ls
  fares_are [] = refl
  fares_are (l ∷ ls) = rw (fares_is l active j, fares_are ls)

-- What senders ask together is what their places ask together.
pub asked_are : (active : Bool) (seats : List Seat) → all_asked active (map ask_for seats) ≡ asked_by active (asked seats)
unfolding all_asked asked shortest longest
asked_are false [] = refl
asked_are true [] = refl
asked_are active (out f ∷ seats) = asked_are active seats
asked_are active (on [] ∷ seats) = asked_are active seats
asked_are active (on (p ∷ ps) ∷ seats) = rw (asked_are active seats) (go active (asked seats))
  where
    go : (active : Bool) (qs : List Pulse) → taken_in active (asked_by active qs) (Bit p.bit p.width) ≡ asked_by active (p ∷ qs)
    go false [] = refl
    go true [] = let e : p.width ≡ max p.width 0 = omega arith in ap Some e
    go false (q ∷ qs) = refl
    go true (q ∷ qs) = refl
