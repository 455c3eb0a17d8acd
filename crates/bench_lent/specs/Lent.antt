-- Laws.
-- The calls on a lent row keep their promises: the row is gathered into a held row, the held row is worked on, and put back.
use Rattle.std.specs.Prelude.{ℕ, zero, suc, ◌-◌, ◌≤◌, ◌<◌, min, ◌≡◌, refl, false, not, Result, Ok, Err, ltb, length, take, get_or, replicate}
use Rattle.std.proofs.lemmas.List.{length-set}
use Rattle.std.proofs.Math.Path.{ap}
use Rattle.std.proofs.Common.{sym, ◌∙◌, arith, eq-eqb, leb-false, ltb-false}
use mathlib.Core.List.{List, ◌++◌}
use Rattle.std.proofs.Math.Dec.{eqb}
use Rattle.std.proofs.Math.ListN.{set, get_or-append}
use Rattle.std.proofs.Math.Seq.{take-set-lt, take-append_seam}
use Rattle.laws.specs.Tests.{never, neither}
use Rattle.laws.specs.Rules.{Rule, first_rule}
use Rattle.laws.specs.RuleLaws.{Agree, first_same}
use Rattle.symbol.specs.declared.Clock.{Clock}
use Rattle.bench.specs.declared.Station.{Station}
use Rattle.bench.specs.declared.CallRefusal.{CallRefusal}
use Rattle.bench.specs.Stations.{most_stations, empty, blank}
use Rattle.bench.specs.Round.{emptied}
use Rattle.bench.specs.Calls.{Call, load, withdraw, set_clock, round, row_size, all_sound, all_empty, place_rules, load_rules, withdraw_rules, clock_rules, rules_on, rules_for, number_of, taken, loaded, clocked, done, after}
use Rattle.bench.specs.Promise.{called_number, LoadPromise, WithdrawPromise, ClockPromise}
use Rattle.bench.specs.RowExactlyWhen.{turned_away_law}
use Rattle.bench.specs.Taken.{load_taken, withdraw_taken, clock_taken}
use Rattle.bench_row.specs.declared.HeldRow.{HeldRow}
use Rattle.bench_row.specs.HeldRows.{held_of}
use Rattle.bench_calls.specs.Changes.{station_of, with_of, ChangedBy, call_number, loaded_row, withdrawn_row, clocked_row, called_in}
use Rattle.bench_calls.specs.ChangeLaws.{some_number}
use Rattle.bench_lent.specs.Padding.{sound_pad, empty_pad}
use Rattle.bench_lent.specs.Restoring.{padded, put_back, put_first}

-- ## A row that is not turned away for its size

module _ (row : List Station) (few : length row ≤ most_stations) where
  -- After a call that is taken every station is put back.
  pub all_back : min (length row) most_stations ≡ length row
  all_back = omega arith

  -- A held row is sound where the row is ..
  pub sound_same : all_sound (held_of row).at ≡ all_sound row
  sound_same = ap all_sound (padded row few) ∙ sound_pad (most_stations - length row) row

  -- .. and empty where it is.
  pub empty_same : all_empty (held_of row).at ≡ all_empty row
  empty_same = ap all_empty (padded row few) ∙ empty_pad (most_stations - length row) row

  station_same : (i : ℕ) → i < length row → station_of (held_of row) i ≡ get_or row i blank
  station_same i h = ap (λ (l : List Station). get_or l i blank) (padded row few) ∙ get_or-append row (replicate (most_stations - length row) blank) blank i h

  row_first : take (length row) (held_of row).at ≡ row
  row_first = ap (take (length row)) (padded row few) ∙ take-append_seam row (replicate (most_stations - length row) blank)

  -- A row comes back as it was gathered.
  pub row_back : put_back (held_of row) row ≡ row
  row_back = put_first (held_of row) row row few refl row_first

  -- another station at a place of the row
  put_station : (i : ℕ) → i < length row → (s : Station) → put_back (with_of (held_of row) i s) row ≡ set row i s
  unfolding with_of
  put_station i h s =
      put_first (with_of (held_of row) i s) row (set row i s) few (length-set row i s)
      (take-set-lt (length row) (held_of row).at i s h ∙ ap (λ (l : List Station). set l i s) row_first)

-- A row that 38 does not turn away has at most 32 stations.
few_of : (row : List Station) → (row_size (length row)).says ≡ false → length row ≤ most_stations
few_of row e = ltb-false most_stations (length row) (neither (eqb (length row) 0) (ltb most_stations (length row)) e).1

-- ## The rules

module _ (row : List Station) where
  -- 38, 39 and 40 are judged alike, and so are the later rules where the row is not too long and has the place
  at_place : (i : ℕ) (later later' : List Rule) → (length row ≤ most_stations → i < length row → Agree later later')
      → Agree (place_rules (length row) (all_sound (held_of row).at) i ++ later) (place_rules (length row) (all_sound row) i ++ later')
  at_place i later later' same = (
    refl,
    refl,
    λ s. (refl, ap not (sound_same row (few_of row s)), λ u. (refl, refl, λ p. same (few_of row s) (leb-false (length row) i p))),
  )

  agree : (c : Call) → Agree (rules_on c (length row) (held_of row).at) (rules_for c row)
  agree (load i m) =
      at_place i (load_rules m (station_of (held_of row) i)) (load_rules m (get_or row i blank))
      (λ few h. (refl, refl, λ u. (refl, ap (λ (s : Station). not (empty s)) (station_same row few i h), λ v. tt)))
  agree (withdraw i) =
      at_place i (withdraw_rules (station_of (held_of row) i)) (withdraw_rules (get_or row i blank))
      (λ few h. (refl, ap empty (station_same row few i h), λ v. tt))
  agree (set_clock i c) = at_place i (clock_rules c) (clock_rules c) (λ few h. (refl, refl, λ v. tt))
  agree (round lent) = (
    refl,
    refl,
    λ s. (refl, ap not (sound_same row (few_of row s)), λ u. (refl, refl, λ w. (refl, empty_same row (few_of row s), λ v. tt))),
  )

  -- The rules of a held row turn a call away as those of its row do.
  pub same_number : (c : Call) → first_rule (rules_on c (length row) (held_of row).at) ≡ number_of c row
  unfolding number_of
  same_number c = first_same (rules_on c (length row) (held_of row).at) (rules_for c row) (agree c)

-- ## The calls

-- the lent row after a call at a place: a call that is turned away stores nothing
abbrev pub left_by : List Station → Result HeldRow CallRefusal → List Station
left_by row (Ok next) = put_back next row
left_by row (Err e) = row

-- After a call that was turned away every station is as it was, however long the row is.
pub put_none : (e : CallRefusal) (row : List Station) → left_by row (Err e) ≡ row
put_none e row = refl

module _ (row : List Station) (b : HeldRow) (g : b ≡ held_of row) where
  -- A call that is turned away answers the number, and leaves the row ..
  refused : (c : Call) (e : CallRefusal) → called_number (Err e) ≡ call_number c b
      → (called_number (Err e) ≡ number_of c row) × (row ≡ after c row)
  unfolding held_of
  refused c e p =
      let q = p ∙ ap (call_number c) g ∙ same_number row c in
      let z : 0 < number_of c row = some (called_number (Err e)) (some_number e) q in
      (q, sym (turned_away_law c row (number_of c row) z refl))
    where
      some : (n : ℕ) {m : ℕ} → eqb n 0 ≡ false → n ≡ m → 0 < m
      some zero h k = never refl h
      some (suc n) h k = omega arith

  -- .. and one that is taken has the number 0.
  goes : (c : Call) → call_number c b ≡ 0 → number_of c row ≡ 0
  unfolding held_of
  goes c p = sym (same_number row c) ∙ sym (ap (call_number c) g) ∙ p

  module _ (i : ℕ) where
    -- Loading on the lent row keeps its promise ..
    pub load_kept : (m : List ℕ) (r : Result HeldRow CallRefusal) → ChangedBy (call_number (load i m) b) (loaded_row b i m) r
        → LoadPromise i m row (left_by row r) (called_in r)
    unfolding after taken done
    load_kept m (Err e) p = let q = refused (load i m) e p in record { answers_it = q.0; leaves_it = q.1 }
    load_kept m (Ok next) p =
        let z = goes (load i m) p.0 in
        let t = load_taken i m row (eq-eqb (number_of (load i m) row) 0 z) in
        record {
          answers_it = sym z;
          leaves_it = rw (z, p.1, g) (put_station row t.passed.few i t.there _ ∙ ap (λ (s : Station). set row i (loaded m s)) (station_same row t.passed.few i t.there));
        }

    -- .. withdrawing too ..
    pub withdraw_kept : (r : Result HeldRow CallRefusal) → ChangedBy (call_number (withdraw i) b) (withdrawn_row b i) r
        → WithdrawPromise i row (left_by row r) (called_in r)
    unfolding after taken done
    withdraw_kept (Err e) p = let q = refused (withdraw i) e p in record { answers_it = q.0; leaves_it = q.1 }
    withdraw_kept (Ok next) p =
        let z = goes (withdraw i) p.0 in
        let t = withdraw_taken i row (eq-eqb (number_of (withdraw i) row) 0 z) in
        record {
          answers_it = sym z;
          leaves_it = rw (z, p.1, g) (put_station row t.passed.few i t.there _ ∙ ap (λ (s : Station). set row i (emptied s)) (station_same row t.passed.few i t.there));
        }

    -- .. and setting a clock.
    pub clock_kept : (k : Clock) (r : Result HeldRow CallRefusal) → ChangedBy (call_number (set_clock i k) b) (clocked_row b i k) r
        → ClockPromise i k row (left_by row r) (called_in r)
    unfolding after taken done
    clock_kept k (Err e) p = let q = refused (set_clock i k) e p in record { answers_it = q.0; leaves_it = q.1 }
    clock_kept k (Ok next) p =
        let z = goes (set_clock i k) p.0 in
        let t = clock_taken i k row (eq-eqb (number_of (set_clock i k) row) 0 z) in
        record {
          answers_it = sym z;
          leaves_it = rw (z, p.1, g) (put_station row t.passed.few i t.there _ ∙ ap (λ (s : Station). set row i (clocked k s)) (station_same row t.passed.few i t.there));
        }
