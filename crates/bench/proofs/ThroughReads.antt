-- Laws.
-- Whoever gets through is read: for each place that a round lets through, the reader finds that place's own message.
use Rattle.std.specs.Prelude.{ℕ, zero, suc, ◌+◌, ◌≤◌, ◌≡◌, true, false, List, [], ◌∷◌, leb, length, take}
use Rattle.std.proofs.Common.{sym, ◌∙◌, arith, length-take, leb-true}
use Rattle.laws.specs.Tests.{both}
use Rattle.symbol.specs.Clocks.{good_of}
use Rattle.checkbyte.specs.Register.{Bytes}
use Rattle.frame.specs.declared.Response.TheVariants.{Without}
use Rattle.frame.specs.Faults.{most_bytes}
use Rattle.frame.specs.Reading.{good, reading}
use Rattle.frame.specs.Writing.{frame_sent}
use Rattle.bench.specs.declared.Station.{Station}
use Rattle.bench.specs.declared.Fared.TheVariants.{Through}
use Rattle.bench.specs.Stations.{most_stored, bits_sent, stored, empty, waiting_at, sound}
use Rattle.bench.specs.Calls.{round, taken, lent_after}
use Rattle.bench.specs.RoundStated.{winner_of, station_at, fare_at, InMemory}
use Rattle.bench.proofs.Places.{holder_waits, some_holder}
use Rattle.bench.specs.Taken.{round_taken, positive}
use Rattle.bench.proofs.Fates.{winner_some}
use Rattle.bench.proofs.Winner.{wins}
use Rattle.bench.specs.RowShows.{sound_at}
use Rattle.bench.proofs.Readable.{round_reads}

take_bytes : (n : ℕ) (bs : List ℕ) → Bytes bs → Bytes (take n bs)
take_bytes zero bs h = tt
take_bytes (suc n) [] h = tt
take_bytes (suc n) (b ∷ bs) h = (h.0, take_bytes n bs h.1)

-- a holder in memory stores at least a byte, and a sound one at most 11
stored_some : (s : Station) → empty s ≡ false → InMemory s → 1 ≤ length (stored s)
stored_some s full mem =
    omega (arith, positive s.len full, mem.eleven, length-take s.len s.bytes)

stored_few : (s : Station) → sound s ≡ true → length (stored s) ≤ most_stored
stored_few s h =
    let few : s.len ≤ most_stored = leb-true s.len most_stored (both (leb s.len most_stored) (good_of s.clock) h).0 in
    omega (arith, length-take s.len s.bytes)

-- THROUGH IS READ. In a round that is not turned away, the message of each place that gets through is what the reader finds in
-- the lent words from position 0: its bytes and its check byte, no response.
pub through_reads : (lent : List ℕ) (row : List Station) → taken (round lent) row ≡ true → (i : ℕ) → fare_at row i ≡ Through
    → InMemory (station_at row i) → (bytes_lent : ℕ) → most_bytes ≤ bytes_lent
    → reading (lent_after row lent) 0 bytes_lent
    ≡ good (frame_sent (stored (station_at row i)) Without [] 0 (2 + length (bits_sent (stored (station_at row i)))))
through_reads lent row t i f mem n h =
    let s : Station = station_at row i in
    let r = round_taken lent row t in
    let w : waiting_at s ≡ winner_of row = ((wins lent row t).through i).0 f in
    let full : empty s ≡ false = some_holder s (λ e. winner_some row r.passed.sound r.somebody (sym w ∙ e)) in
    let fine : sound s ≡ true = sound_at row i r.passed.sound in
    round_reads lent row t (stored s) (sym w ∙ holder_waits s full) (take_bytes s.len s.bytes mem.bytes)
    (stored_some s full mem) (stored_few s fine) n h
