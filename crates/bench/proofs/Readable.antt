-- Laws.
-- Demand 3 "is about frames as demand 2's reader sees them": the words of a round, read from position 0, are a good frame with
-- exactly the winner's bytes and check byte and no response, for every choice of good clocks.
use Rattle.std.specs.Prelude.{ℕ, ◌+◌, ◌-◌, ◌≤◌, ◌≡◌, refl, Bool, true, false, List, [], ◌∷◌, ◌++◌, length, take, drop}
use Rattle.std.proofs.Common.{sym, ap, ◌∙◌, append-nil, arith}
use Rattle.std.proofs.Math.Seq.{take-append_seam}
use Rattle.symbol.specs.SendingLaws.{sending_inside}
use Rattle.symbol.specs.Sending.{bit_symbol}
use Rattle.symbol.specs.declared.Symbol.TheVariants.{Sof}
use Rattle.checkbyte.specs.Register.{check_of, with_check, Bytes}
use Rattle.frame.specs.declared.Response.TheVariants.{Without}
use Rattle.frame.specs.Bits.{bytes}
use Rattle.frame.proofs.ByteLaws.{bytes_back, with_bytes}
use Rattle.frame.proofs.WidthLaws.{with_check_length}
use Rattle.frame.specs.Faults.{most_bytes}
use Rattle.frame.specs.Reading.{good, reading}
use Rattle.frame.specs.Waves.{Wave, still, pulse, bit_symbols, byte_symbols, FrameWave}
use Rattle.frame.specs.Writing.{frame_sent, bad_message}
use Rattle.frame.specs.Admitted.{admitted}
use Rattle.frame.proofs.ReadBack.{reads_wave}
use Rattle.bench.specs.declared.Station.{Station}
use Rattle.bench.specs.Stations.{most_stored, Bits, bits_sent}
use Rattle.bench.specs.Round.{round_of}
use Rattle.bench.specs.Calls.{round, taken, lent_after}
use Rattle.bench.specs.RoundStated.{Carried, none, next, winner_of, OnTheLine}
use Rattle.bench.proofs.LineTime.{on_the_line}

-- ## Bits and messages

-- Two messages with the same bits are the same message.
pub same_message : (m n : List ℕ) → Bytes m → Bytes n → bits_sent m ≡ bits_sent n → m ≡ n
same_message m n hm hn e =
    let w : with_check m ≡ with_check n = sym (bytes_back (with_check m) (with_bytes m hm)) ∙ ap bytes e ∙ bytes_back (with_check n) (with_bytes n hn) in
    sym (front m) ∙ ap (λ (bs : List ℕ). take (length bs - 1) bs) w ∙ front n
  where
    front : (m : List ℕ) → take (length (with_check m) - 1) (with_check m) ≡ m
    front m =
        let k : length (with_check m) - 1 ≡ length m = omega (arith, with_check_length m) in ap (λ (j : ℕ). take j (with_check m)) k ∙ take-append_seam m (check_of m ∷ [])

-- ## A round's words are a wave

carried_wave : {active : Bool} {bits : Bits} {ws : List ℕ} → Carried active bits ws → Wave active (bit_symbols bits) ws
carried_wave none = still
carried_wave (next {active} {b} {w} h r) = pulse (sending_inside active (bit_symbol b) w h) (carried_wave r)

-- The words of a round that the message x wins are a frame of x.
pub round_wave : (row : List Station) (x : List ℕ) → OnTheLine row → winner_of row ≡ bits_sent x → FrameWave x Without [] (round_of row).words
round_wave row x l e =
    let line : Wave false (byte_symbols (with_check x)) l.widths = rw e at (carried_wave l.line) in
    let whole : Wave false (byte_symbols (with_check x) ++ []) l.widths = rw append-nil line in
    record {
      opening = 300;
      inner = l.sof ∷ l.widths;
      closing = 300;
      words_are = l.words;
      opens = omega arith;
      carries = pulse (sending_inside true Sof l.sof l.sof_window) whole;
      closes = omega arith;
    }

fits : (x : List ℕ) → 1 ≤ length x → length x ≤ most_stored → bad_message x Without [] ≡ false
fits x lo hi = (admitted x Without []).1 (record { some_main = lo; some_response = tt; at_most = omega (arith, with_check_length x) })

-- READ-BACK. The words of a round that is not turned away, as they stand first in the lent words, are read from position 0 as
-- the winner's message: a good frame, its bytes and its check byte, no response, opened at 0, the next position at the
-- closing end.
pub round_reads : (lent : List ℕ) (row : List Station) → taken (round lent) row ≡ true → (x : List ℕ) → winner_of row ≡ bits_sent x
    → Bytes x → 1 ≤ length x → length x ≤ most_stored → (bytes_lent : ℕ) → most_bytes ≤ bytes_lent
    → reading (lent_after row lent) 0 bytes_lent ≡ good (frame_sent x Without [] 0 (2 + length (bits_sent x)))
unfolding lent_after
round_reads lent row t x e b lo hi n h =
    let l = on_the_line lent row t in
    let k : 0 + length (round_of row).words - 1 ≡ 2 + length (bits_sent x) = omega (arith, l.number, ap length e) in
    rw t
    (reads_wave [] (round_of row).words (drop (length (round_of row).words) lent) x Without [] n (round_wave row x l e) (fits x lo hi) b tt refl h
    ∙ ap (λ (j : ℕ). good (frame_sent x Without [] 0 j)) k)
