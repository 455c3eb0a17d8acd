-- Laws.
-- A round of any entries whose widths lie in the sending windows: what stands on the line, how each place fares, and how long
-- it takes. Stations with clocks are one case of it.
use Rattle.std.specs.Prelude.{ℕ, suc, ◌+◌, ◌*◌, ◌≤◌, ◌≡◌, refl, ◌≢◌, Bool, true, false, cond, List, [], ◌∷◌, ◌++◌, map, length}
use Rattle.std.proofs.Common.{ap, arith, length-append}
use Rattle.symbol.specs.Sending.{SendingWindow, bit_symbol}
use Rattle.bench.specs.Stations.{Bits}
use Rattle.bench.specs.Order.{ahead}
use Rattle.bench.specs.Course.{longest, most_bits, play}
use Rattle.bench.specs.Round.{Entry, absent, enters, sofs_asked, seat_of, sum_of, round_among}
use Rattle.bench.specs.RoundStated.{first, first_of, bits_in, Carried, none, next, FairAll, EntriesInWindows, goes_out, RoundCase}
use Rattle.bench.proofs.CourseLaws.{plays_out}

-- ## Entries

-- entries that keep the rules ask for nothing outside the windows
pub all_fair : (entries : List Entry) → EntriesInWindows entries → FairAll false (map seat_of entries)
all_fair [] h = tt
all_fair (absent ∷ entries) h = (tt, all_fair entries h.1)
all_fair (enters sof pulses ∷ entries) h = (h.0.1, all_fair entries h.1)

shorter : (x y : Bits) (n : ℕ) → length x ≤ n → length y ≤ n → length (first_of x y) ≤ n
unfolding first_of
shorter x y n h k = go (ahead x y)
  where
    go : (t : Bool) → length (cond t x y) ≤ n
    go true = h
    go false = k

-- No more than 96 bits go out.
pub goes_short : (entries : List Entry) → EntriesInWindows entries → length (goes_out entries) ≤ most_bits
unfolding first
goes_short [] h = omega arith
goes_short (absent ∷ entries) h = shorter [] (goes_out entries) most_bits (omega arith) (goes_short entries h.1)
goes_short (enters sof pulses ∷ entries) h = shorter (bits_in pulses) (goes_out entries) most_bits h.0.2 (goes_short entries h.1)

-- the longest of the SOFs lies in its window, as soon as somebody has a bit to send
sof_in : (entries : List Entry) → EntriesInWindows entries → (longest (sofs_asked entries) ≤ 218) × (goes_out entries ≢ [] → 182 ≤ longest (sofs_asked entries))
unfolding sofs_asked longest first first_of ahead
sof_in [] h = (omega arith, λ n. absurd (n refl))
sof_in (absent ∷ entries) h = sof_in entries h.1
sof_in (enters sof pulses ∷ entries) h = let r = sof_in entries h.1 in (omega arith, λ n. omega arith)

-- ## Sums and lengths of what is carried

window_most : (active b : Bool) (w : ℕ) → SendingWindow active (bit_symbol b) w → w ≤ 145
window_most false false w h = omega arith
window_most false true w h = omega arith
window_most true false w h = omega arith
window_most true true w h = omega arith

carried_sum : {active : Bool} {bits : Bits} {ws : List ℕ} → Carried active bits ws → sum_of ws ≤ length bits * 145
unfolding sum_of
carried_sum none = omega arith
carried_sum (next {active} {b} {w} h r) = let k = carried_sum r in omega (arith, window_most active b w h)

-- a width for each bit
pub carried_length : {active : Bool} {bits : Bits} {ws : List ℕ} → Carried active bits ws → length ws ≡ length bits
carried_length none = refl
carried_length (next h r) = ap suc (carried_length r)

sum_append : (a b : List ℕ) → sum_of (a ++ b) ≡ sum_of a + sum_of b
unfolding sum_of
sum_append [] b = omega arith
sum_append (w ∷ a) b = let k = sum_append a b in omega arith

-- ## The round

-- Every round of entries that keep the rules comes to this.
pub comes : (entries : List Entry) → EntriesInWindows entries → RoundCase entries (round_among entries)
unfolding round_among sum_of
comes entries h =
    let p = plays_out most_bits 1 false (map seat_of entries) (all_fair entries h) (goes_short entries h) in
    let ws : List ℕ = (play most_bits false 1 (map seat_of entries)).widths in
    let s = sof_in entries h in
    record {
      sof = longest (sofs_asked entries);
      widths = (play most_bits false 1 (map seat_of entries)).widths;
      words = refl;
      sof_window = λ n. (s.1 n, s.0);
      line = p.line;
      few = omega (arith, length-append ws (300 ∷ []), carried_length p.line, goes_short entries h);
      fares = p.fares;
      time = omega (arith, sum_append ws (300 ∷ []));
      bound = omega (arith, carried_sum p.line, goes_short entries h);
    }
