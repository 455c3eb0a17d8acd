-- Laws.
-- What the bits of a round come to, whatever widths are asked for inside the sending windows: the first message's bits stand
-- on the line, its holders remain, and everyone else is out at the first difference from it.
use Rattle.std.specs.Prelude.{ℕ, zero, suc, ◌≤◌, ◌≡◌, refl, Bool, true, false, cond, not, List, [], ◌∷◌, map, length}
use Rattle.std.proofs.Common.{sym, ap, ◌∙◌, arith}
use Rattle.std.specs.Bool.{beq}
use Rattle.symbol.specs.Sending.{SendingWindow, bit_symbol}
use Rattle.bench.specs.declared.Fared.TheVariants.{Lost}
use Rattle.bench.specs.Stations.{Bits}
use Rattle.bench.specs.Order.{ahead}
use Rattle.bench.specs.Course.{Pulse, Seat, out, on, asked, widths_of, lasts, on_line, heard, over, bit_then, nobody_asks, play, fared_at}
use Rattle.bench.specs.LineLaws.{lasts_in, on_line_law}
use Rattle.bench.specs.RoundStated.{InWindows, only_ones, first_of, first, bits_in, first_at, none, next, FairAt, FairAll, against, fare_of, Runs}
use Rattle.bench.proofs.First.{first_none, first_same_bit}

-- ## The bits of places

asked_in : (active : Bool) (seats : List Seat) → FairAll active seats → InWindows active (asked seats)
unfolding asked
asked_in active [] g = tt
asked_in active (out f ∷ seats) g = asked_in active seats g.1
asked_in active (on [] ∷ seats) g = asked_in active seats g.1
asked_in active (on (p ∷ ps) ∷ seats) g = (g.0.0, asked_in active seats g.1)

heard_fair : (k : ℕ) (active b : Bool) (seats : List Seat) → FairAll active seats → FairAll (not active) (map (heard k b) seats)
heard_fair k active b [] g = tt
heard_fair k active b (out f ∷ seats) g = (tt, heard_fair k active b seats g.1)
heard_fair k active b (on [] ∷ seats) g = (tt, heard_fair k active b seats g.1)
heard_fair k active b (on (p ∷ ps) ∷ seats) g = go (beq p.bit b) (heard_fair k active b seats g.1)
  where
    go : (t : Bool) → FairAll (not active) (map (heard k b) seats)
        → FairAt (not active) (cond t (on ps) (out (Lost k))) × FairAll (not active) (map (heard k b) seats)
    go true r = (g.0.1, r)
    go false r = (tt, r)

-- ## One bit

-- how the first message begins, and what the first message is after that bit
data Head (k : ℕ) (seats : List Seat) : Type 0 where
  nobody : asked seats ≡ [] → first_at seats ≡ [] → ((b : Bool) → first_at (map (heard k b) seats) ≡ []) → Head k seats
  a_zero : (q : Pulse) (qs : List Pulse) → asked seats ≡ q ∷ qs → only_ones (q ∷ qs) ≡ false
      → first_at seats ≡ false ∷ first_at (map (heard k false) seats) → Head k seats
  no_zero : (q : Pulse) (qs : List Pulse) → asked seats ≡ q ∷ qs → only_ones (q ∷ qs) ≡ true
      → first_at seats ≡ true ∷ first_at (map (heard k true) seats) → first_at (map (heard k false) seats) ≡ [] → Head k seats

alone : (b : Bool) (ps : List Pulse) → b ∷ bits_in ps ≡ b ∷ first_of (bits_in ps) []
alone b ps = ap (λ (r : Bits). b ∷ r) (sym (first_none (bits_in ps)))

head : (k : ℕ) (seats : List Seat) → Head k seats
unfolding first first_of ahead asked
head k [] = nobody refl refl (λ b. refl)
head k (out f ∷ seats) = go (head k seats)
  where
    go : Head k seats → Head k (out f ∷ seats)
    go (nobody a e h) = nobody a e h
    go (a_zero q qs a z e) = a_zero q qs a z e
    go (no_zero q qs a z e h) = no_zero q qs a z e h
head k (on [] ∷ seats) = go (head k seats)
  where
    go : Head k seats → Head k (on [] ∷ seats)
    go (nobody a e h) = nobody a e h
    go (a_zero q qs a z e) = a_zero q qs a z e
    go (no_zero q qs a z e h) = no_zero q qs a z e h
head k (on (p ∷ ps) ∷ seats) = go p.bit p.width (head k seats)
  where
    go : (b : Bool) (w : ℕ) → Head k seats → Head k (on (record { bit = b; width = w } ∷ ps) ∷ seats)
    go false w (nobody a e h) = a_zero (record { bit = false; width = w }) [] (rw a) refl (rw (e, h false) (alone false ps))
    go true w (nobody a e h) = no_zero (record { bit = true; width = w }) [] (rw a) refl (rw (e, h true) (alone true ps)) (h false)
    go false w (a_zero q qs a z e) =
        a_zero (record { bit = false; width = w }) (q ∷ qs) (rw a) refl (rw e (first_same_bit false (bits_in ps) (first_at (map (heard k false) seats))))
    go true w (a_zero q qs a z e) = a_zero (record { bit = true; width = w }) (q ∷ qs) (rw a) z (rw e)
    go false w (no_zero q qs a z e h) = a_zero (record { bit = false; width = w }) (q ∷ qs) (rw a) refl (rw (e, h) (alone false ps))
    go true w (no_zero q qs a z e h) =
        no_zero (record { bit = true; width = w }) (q ∷ qs) (rw a) z (rw e (first_same_bit true (bits_in ps) (first_at (map (heard k true) seats)))) h

-- ## All bits

heard_fares : (k : ℕ) (b : Bool) (w : Bits) (seats : List Seat) → map (fare_of (suc k) w) (map (heard k b) seats) ≡ map (fare_of k (b ∷ w)) seats
unfolding against
heard_fares k b w [] = refl
heard_fares k b w (out f ∷ seats) = rw (heard_fares k b w seats)
heard_fares k b w (on [] ∷ seats) = rw (heard_fares k b w seats)
heard_fares k b w (on (p ∷ ps) ∷ seats) = go (beq p.bit b) (heard_fares k b w seats)
  where
    go : (t : Bool) → map (fare_of (suc k) w) (map (heard k b) seats) ≡ map (fare_of k (b ∷ w)) seats
        → fare_of (suc k) w (cond t (on ps) (out (Lost k))) ∷ map (fare_of (suc k) w) (map (heard k b) seats) ≡ cond t (against (suc k) w (bits_in ps)) (Lost k) ∷ map (fare_of k (b ∷ w)) seats
    go true e = rw e
    go false e = rw e

over_fares : (k : ℕ) (seats : List Seat) → map fared_at seats ≡ map (fare_of k []) seats
unfolding against
over_fares k [] = refl
over_fares k (out f ∷ seats) = rw (over_fares k seats)
over_fares k (on ps ∷ seats) = rw (over_fares k seats)

ends : (k : ℕ) (active : Bool) (seats : List Seat) → asked seats ≡ [] → first_at seats ≡ [] → Runs k active seats (over seats)
ends k active seats a e = record { line = rw e none; fares = rw e (over_fares k seats); finished = a }

module _ (n k : ℕ) (active : Bool) (seats : List Seat) (b : Bool) (w : ℕ) where
  goes_on : first_at seats ≡ b ∷ first_at (map (heard k b) seats) → SendingWindow active (bit_symbol b) w
      → Runs (suc k) (not active) (map (heard k b) seats) (play n (not active) (suc k) (map (heard k b) seats))
      → Runs k active seats (bit_then w (play n (not active) (suc k) (map (heard k b) seats)))
  goes_on e h r =
      record {
        line = rw e (next h r.line);
        fares = r.fares ∙ heard_fares k b (first_at (map (heard k b) seats)) seats ∙ ap (λ (x : Bits). map (fare_of k x) seats) (sym e);
        finished = r.finished;
      }

-- The bits of a round whose places ask for widths in the sending windows, if it has no more bits than are told.
pub plays_out : (n k : ℕ) (active : Bool) (seats : List Seat) → FairAll active seats → length (first_at seats) ≤ n
    → Runs k active seats (play n active k seats)
unfolding play
plays_out zero k active seats g h = go (head k seats)
  where
    go : Head k seats → Runs k active seats (over seats)
    go (nobody a e l) = ends k active seats a e
    go (a_zero q qs a z e) = absurd (omega (arith, ap length e))
    go (no_zero q qs a z e l) = absurd (omega (arith, ap length e))
plays_out (suc n) k active seats g h =
    go (head k seats) (λ b. plays_out n (suc k) (not active) (map (heard k b) seats) (heard_fair k active b seats g))
  where
    width : List Pulse → ℕ
    width ps = lasts active (widths_of ps)

    bit : (b : Bool) (q : Pulse) (qs : List Pulse) → asked seats ≡ q ∷ qs → only_ones (q ∷ qs) ≡ b
        → first_at seats ≡ b ∷ first_at (map (heard k b) seats)
        → (length (first_at (map (heard k b) seats)) ≤ n → Runs (suc k) (not active) (map (heard k b) seats) (play n (not active) (suc k) (map (heard k b) seats)))
        → Runs k active seats (bit_then (width (q ∷ qs)) (play n (not active) (suc k) (map (heard k (on_line active (width (q ∷ qs)))) seats)))
    bit b q qs a z e ih =
        let i : InWindows active (q ∷ qs) = rw a at (asked_in active seats g) in
        let v : SendingWindow active (bit_symbol b) (width (q ∷ qs)) = rw z at (lasts_in active q qs i) in
        rw (on_line_law active b (width (q ∷ qs)) v) (goes_on n k active seats b (width (q ∷ qs)) e v (ih (omega (arith, ap length e))))

    go : Head k seats
        → ((b : Bool) → length (first_at (map (heard k b) seats)) ≤ n → Runs (suc k) (not active) (map (heard k b) seats) (play n (not active) (suc k) (map (heard k b) seats)))
        → Runs k active seats (cond (nobody_asks (asked seats)) (over seats) (bit_then (width (asked seats)) (play n (not active) (suc k) (map (heard k (on_line active (width (asked seats)))) seats))))
    go (nobody a e l) ih = rw a (ends k active seats a e)
    go (a_zero q qs a z e) ih = rw a (bit false q qs a z e (ih false))
    go (no_zero q qs a z e l) ih = rw a (bit true q qs a z e (ih true))
