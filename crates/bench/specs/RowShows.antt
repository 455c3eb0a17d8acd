-- Laws.
-- What loading, withdrawing and setting a clock show their caller when they are done: one station changes as document 01 says,
-- and no other. And what no call changes: the number of stations, and that the row is sound.
use Rattle.std.specs.Prelude.{ℕ, zero, suc, ◌<◌, ◌≡◌, refl, Bool, true, false, cond, List, [], ◌∷◌, leb, length, set, Ok}
use Rattle.std.proofs.Common.{sym, ap, ◌∙◌, length-set, get_or-set_same, get_or-set_other, le-leb, eq-eqb}
use Rattle.laws.specs.Tests.{both}
use Rattle.symbol.specs.declared.Clock.{Clock}
use Rattle.symbol.specs.Clocks.{good_of}
use Rattle.bench.specs.declared.Station.{Station}
use Rattle.bench.specs.declared.Fared.{Fared}
use Rattle.bench.specs.declared.Fared.TheVariants.{Idle, Through, Lost}
use Rattle.bench.specs.Stations.{most_stored, sound, blank}
use Rattle.bench.specs.Round.{round_of, emptied, after_fare, after_fares}
use Rattle.bench.specs.Calls.{Call, load, withdraw, set_clock, round, all_sound, number_of, taken, loaded, clocked, done, after}
use Rattle.bench.specs.Promise.{LoadPromise, WithdrawPromise, ClockPromise}
use Rattle.bench.specs.RoundStated.{station_at, OnlyAt}
use Rattle.bench.specs.Taken.{load_taken, withdraw_taken, clock_taken}

-- ## One station changes

only_at : (i : ℕ) (change : Station → Station) (entry exit : List Station) → i < length entry → exit ≡ set entry i (change (station_at entry i))
    → OnlyAt i change entry exit
only_at i change entry exit h e =
    record {
      there = h;
      changed = rw e (get_or-set_same entry i (change (station_at entry i)) blank h);
      others = λ j n. rw e (get_or-set_other entry i j (change (station_at entry i)) blank n);
      size = rw e (length-set entry i (change (station_at entry i)));
    }

-- "the bytes stand first, their number is the length"
pub load_shows : {i : ℕ} {m : List ℕ} {entry exit : List Station} → LoadPromise i m entry exit (Ok tt) → OnlyAt i (loaded m) entry exit
unfolding after taken done
load_shows {i} {m} {entry} {exit} p =
    let t : taken (load i m) entry ≡ true = eq-eqb (number_of (load i m) entry) 0 (sym p.answers_it) in
    only_at i (loaded m) entry exit (load_taken i m entry t).there (p.leaves_it ∙ rw t)

-- withdrawing leaves "length 0"
pub withdraw_shows : {i : ℕ} {entry exit : List Station} → WithdrawPromise i entry exit (Ok tt) → OnlyAt i emptied entry exit
unfolding after taken done
withdraw_shows {i} {entry} {exit} p =
    let t : taken (withdraw i) entry ≡ true = eq-eqb (number_of (withdraw i) entry) 0 (sym p.answers_it) in
    only_at i emptied entry exit (withdraw_taken i entry t).there (p.leaves_it ∙ rw t)

-- setting a clock
pub clock_shows : {i : ℕ} {c : Clock} {entry exit : List Station} → ClockPromise i c entry exit (Ok tt) → OnlyAt i (clocked c) entry exit
unfolding after taken done
clock_shows {i} {c} {entry} {exit} p =
    let t : taken (set_clock i c) entry ≡ true = eq-eqb (number_of (set_clock i c) entry) 0 (sym p.answers_it) in
    only_at i (clocked c) entry exit (clock_taken i c entry t).there (p.leaves_it ∙ rw t)

-- ## What no call changes

fares_length : (fs : List Fared) (row : List Station) → length (after_fares fs row) ≡ length row
unfolding after_fares
fares_length [] row = refl
fares_length (f ∷ fs) [] = refl
fares_length (f ∷ fs) (s ∷ row) = ap suc (fares_length fs row)

done_length : (c : Call) (row : List Station) → length (done c row) ≡ length row
unfolding done
done_length (load i m) row = length-set row i (loaded m (station_at row i))
done_length (withdraw i) row = length-set row i (emptied (station_at row i))
done_length (set_clock i c) row = length-set row i (clocked c (station_at row i))
done_length (round lent) row = fares_length (round_of row).fares row

-- A call leaves as many stations as it found.
pub same_length : (c : Call) (row : List Station) → length (after c row) ≡ length row
unfolding after
same_length c row = go (taken c row)
  where
    go : (t : Bool) → length (cond t (done c row) row) ≡ length row
    go true = done_length c row
    go false = refl

set_sound : (row : List Station) (i : ℕ) (s : Station) → all_sound row ≡ true → sound s ≡ true → all_sound (set row i s) ≡ true
unfolding all_sound
set_sound [] i s h k = refl
set_sound (x ∷ row) zero s h k = rw k (both (sound x) (all_sound row) h).1
set_sound (x ∷ row) (suc i) s h k = let b = both (sound x) (all_sound row) h in rw b.0 (set_sound row i s b.1 k)

-- Each station of a sound row is sound.
pub sound_at : (row : List Station) (i : ℕ) → all_sound row ≡ true → sound (station_at row i) ≡ true
unfolding all_sound good_of
sound_at [] i h = refl
sound_at (s ∷ row) zero h = (both (sound s) (all_sound row) h).0
sound_at (s ∷ row) (suc i) h = sound_at row i (both (sound s) (all_sound row) h).1

good_at : (row : List Station) (i : ℕ) → all_sound row ≡ true → good_of (station_at row i).clock ≡ true
good_at row i h = (both (leb (station_at row i).len most_stored) (good_of (station_at row i).clock) (sound_at row i h)).1

fare_sound : (f : Fared) (s : Station) → sound s ≡ true → sound (after_fare f s) ≡ true
fare_sound Idle s h = h
fare_sound Through s h = (both (leb s.len most_stored) (good_of s.clock) h).1
fare_sound (Lost k) s h = h

fares_sound : (fs : List Fared) (row : List Station) → all_sound row ≡ true → all_sound (after_fares fs row) ≡ true
unfolding all_sound after_fares
fares_sound [] row h = h
fares_sound (f ∷ fs) [] h = h
fares_sound (f ∷ fs) (s ∷ row) h = let b = both (sound s) (all_sound row) h in rw (fare_sound f s b.0) (fares_sound fs row b.1)

done_sound : (c : Call) (row : List Station) → taken c row ≡ true → all_sound row ≡ true → all_sound (done c row) ≡ true
unfolding done
done_sound (load i m) row t h =
    set_sound row i (loaded m (station_at row i)) h (rw (le-leb (length m) most_stored (load_taken i m row t).few) (good_at row i h))
done_sound (withdraw i) row t h = set_sound row i (emptied (station_at row i)) h (good_at row i h)
done_sound (set_clock i c) row t h =
    let few = (both (leb (station_at row i).len most_stored) (good_of (station_at row i).clock) (sound_at row i h)).0 in
    set_sound row i (clocked c (station_at row i)) h (rw (few, (clock_taken i c row t).good))
done_sound (round lent) row t h = fares_sound (round_of row).fares row h

-- A row without an unsound station stays so, whatever is called: 39 never comes of the calls themselves.
pub stays_sound : (c : Call) (row : List Station) → all_sound row ≡ true → all_sound (after c row) ≡ true
unfolding after
stays_sound c row h = go (taken c row) refl
  where
    go : (t : Bool) → taken c row ≡ t → all_sound (cond t (done c row) row) ≡ true
    go true e = done_sound c row e h
    go false e = h
