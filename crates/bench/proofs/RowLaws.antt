-- Laws.
-- A row of sound stations keeps the rules of a round, and what comes of the round is said in the stations' own bits.
use Rattle.std.specs.Prelude.{ℕ, ◌≤◌, ◌≡◌, refl, ◌≢◌, Bool, true, false, cond, not, leb, length}
use Rattle.std.proofs.Common.{sym, ap, ap₂, ◌∙◌, arith, length-take, leb-true}
use mathlib.Core.List.{List, [], ◌∷◌, ◌++◌, map, nil≢cons}
use Rattle.laws.specs.Tests.{both}
use Rattle.symbol.specs.declared.Clock.{Clock}
use Rattle.symbol.specs.Clocks.{good_of, Good}
use Rattle.symbol.specs.Sending.{SendingWindow, bit_width, bit_symbol}
use Rattle.symbol.specs.SendingLaws.{good}
use Rattle.checkbyte.specs.Register.{check_of, with_check}
use Rattle.frame.proofs.ByteLaws.{bits_length, bits_cons}
use Rattle.frame.proofs.WidthLaws.{with_check_length}
use Rattle.bench.specs.declared.Station.{Station}
use Rattle.bench.specs.declared.Fared.{Fared}
use Rattle.bench.specs.declared.Fared.TheVariants.{Idle}
use Rattle.bench.specs.Stations.{most_stored, Bits, bits_sent, stored, empty, waiting_at, sound}
use Rattle.bench.specs.Course.{most_bits, asked, play}
use Rattle.bench.specs.Round.{absent, pulses_of, holder, entry_of, seat_of, round_of}
use Rattle.bench.specs.Calls.{all_sound}
use Rattle.bench.specs.Histories.{waiting}
use Rattle.bench.specs.RoundStated.{first, bits_in, bits_at, Fair, against, fare_of, EntryInWindows, EntriesInWindows, goes_out, RoundCase, winner_of}
use Rattle.bench.proofs.CourseLaws.{plays_out}
use Rattle.bench.proofs.RoundLaws.{all_fair, goes_short, comes}

-- ## A message's bits

-- A message of at most 11 bytes has at most 96 bits with its check byte.
pub sent_short : (m : List ℕ) → length m ≤ most_stored → length (bits_sent m) ≤ most_bits
sent_short m h = omega (arith, bits_length (with_check m), with_check_length m)

-- Every message has bits to send, if only those of its check byte.
pub sent_some : (m : List ℕ) → bits_sent m ≢ []
sent_some [] e = nil≢cons (sym e ∙ bits_cons (check_of []) [])
sent_some (b ∷ m) e = nil≢cons (sym e ∙ bits_cons b (m ++ (check_of (b ∷ m) ∷ [])))

-- ## Clocks

width_in : (c : Clock) → Good c → (active b : Bool) → SendingWindow active (bit_symbol b) (bit_width c active b).0
width_in c g false false = g.short
width_in c g false true = g.long
width_in c g true false = g.long
width_in c g true true = g.short

-- What a good clock asks for lies in the sending windows.
pub pulses_fair : (c : Clock) → Good c → (active : Bool) (bits : Bits) → Fair active (pulses_of c active bits)
unfolding pulses_of
pulses_fair c g active [] = tt
pulses_fair c g active (b ∷ bits) = (width_in c g active b, pulses_fair c g (not active) bits)

-- What a clock asks for carries the bits, whatever its widths.
pub pulses_bits : (c : Clock) (active : Bool) (bits : Bits) → bits_in (pulses_of c active bits) ≡ bits
unfolding pulses_of
pulses_bits c active [] = refl
pulses_bits c active (b ∷ bits) = ap (λ (r : Bits). b ∷ r) (pulses_bits c (not active) bits)

-- ## Sound rows

keeps_one : (s : Station) → sound s ≡ true → EntryInWindows (entry_of s)
keeps_one s h = go (empty s)
  where
    two : (leb s.len most_stored ≡ true) × (good_of s.clock ≡ true)
    two = both (leb s.len most_stored) (good_of s.clock) h

    few : length (stored s) ≤ most_stored
    few = omega (arith, length-take s.len s.bytes, leb-true s.len most_stored two.0)

    go : (t : Bool) → EntryInWindows (cond t absent (holder s.clock (stored s)))
    go true = tt
    go false =
        let g = good s.clock two.1 in
        (g.sof, pulses_fair s.clock g false (bits_sent (stored s)), rw (pulses_bits s.clock false (bits_sent (stored s))) (sent_short (stored s) few))

-- The entries of sound stations keep the rules of a round.
pub keeps : (row : List Station) → all_sound row ≡ true → EntriesInWindows (map entry_of row)
unfolding all_sound
keeps [] h = tt
keeps (s ∷ row) h = let b = both (sound s) (all_sound row) h in (keeps_one s b.0, keeps row b.1)

waits_one : (s : Station) → bits_at (seat_of (entry_of s)) ≡ waiting_at s
waits_one s = go (empty s)
  where
    go : (t : Bool) → bits_at (seat_of (cond t absent (holder s.clock (stored s)))) ≡ cond t [] (bits_sent (stored s))
    go true = refl
    go false = pulses_bits s.clock false (bits_sent (stored s))

waits_all : (row : List Station) → map bits_at (map seat_of (map entry_of row)) ≡ waiting row
unfolding waiting
waits_all [] = refl
waits_all (s ∷ row) = ap₂ (λ (x : Bits) (xs : List Bits). x ∷ xs) (waits_one s) (waits_all row)

-- What goes out is the first of the messages that wait.
pub goes_first : (row : List Station) → goes_out (map entry_of row) ≡ winner_of row
goes_first row = ap first (waits_all row)

-- how a station fares against the bits w
abbrev pub fares_against : Bits → Station → Fared
fares_against w s = cond (empty s) Idle (against 1 w (bits_sent (stored s)))

fares_one : (w : Bits) (s : Station) → fare_of 1 w (seat_of (entry_of s)) ≡ fares_against w s
fares_one w s = go (empty s)
  where
    go : (t : Bool) → fare_of 1 w (seat_of (cond t absent (holder s.clock (stored s)))) ≡ cond t Idle (against 1 w (bits_sent (stored s)))
    go true = refl
    go false = rw (pulses_bits s.clock false (bits_sent (stored s)))

fares_all : (w : Bits) (row : List Station) → map (fare_of 1 w) (map seat_of (map entry_of row)) ≡ map (fares_against w) row
fares_all w [] = refl
fares_all w (s ∷ row) = ap₂ (λ (f : Fared) (fs : List Fared). f ∷ fs) (fares_one w s) (fares_all w row)

module _ (row : List Station) (h : all_sound row ≡ true) where
  -- What comes of a round on sound stations.
  pub row_comes : RoundCase (map entry_of row) (round_of row)
  unfolding round_of
  row_comes = comes (map entry_of row) (keeps row h)

  -- Each station fares as its own bits do against those of the first message.
  pub row_fares : (round_of row).fares ≡ map (fares_against (winner_of row)) row
  row_fares = row_comes.fares ∙ rw (goes_first row) (fares_all (winner_of row) row)

  -- "The round is over when every remaining station has sent its check byte": 96 bits are enough for that.
  pub row_finishes : asked (play most_bits false 1 (map seat_of (map entry_of row))).seats ≡ []
  row_finishes =
      (plays_out most_bits 1 false (map seat_of (map entry_of row)) (all_fair (map entry_of row) (keeps row h)) (goes_short (map entry_of row) (keeps row h))).finished
