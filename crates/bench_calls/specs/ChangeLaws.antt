-- Laws.
-- How the rules of a call at a place decide what it comes to.
use Rattle.std.specs.Prelude.{ℕ, zero, suc, ◌≤◌, ◌<◌, ◌≡◌, refl, true, false, List, [], ◌∷◌, Result, Ok, Err, ◌++◌, eqb, length, get_or}
use Rattle.std.proofs.Common.{sym, ap, subst, ◌∙◌, inl, inr, arith, eq-eqb, ne_eqb}
use Rattle.laws.specs.Tests.{not_at_most}
use Rattle.laws.specs.Rules.{Rule, first_rule}
use Rattle.laws.specs.RuleLaws.{none_is, and_then, first_then}
use Rattle.symbol.specs.declared.Clock.{Clock}
use Rattle.symbol.specs.Clocks.{good_of}
use Rattle.bench.specs.declared.Station.{Station}
use Rattle.bench.specs.declared.CallRefusal.{CallRefusal}
use Rattle.bench.specs.Stations.{most_stations, blank}
use Rattle.bench.specs.Round.{emptied}
use Rattle.bench.specs.Calls.{all_sound, bad_message, place_rules, loaded, clocked}
use Rattle.bench.specs.Promise.{called_number}
use Rattle.bench.specs.Taken.{within}
use Rattle.bench_row.specs.declared.HeldRow.{HeldRow}
use Rattle.bench_calls.specs.Changes.{station_of, with_of, row_number, ChangedBy, ChangedAt, held_after, load_number, loaded_row, withdraw_number, withdrawn_row, clock_number, clocked_row}

-- No refusal has the number 0.
pub some_number : (e : CallRefusal) → eqb (called_number (Err e)) 0 ≡ false
some_number CallRefusal.RowSize = refl
some_number CallRefusal.UnsoundStation = refl
some_number CallRefusal.NoStation = refl
some_number CallRefusal.BadMessage = refl
some_number CallRefusal.BadClock = refl
some_number CallRefusal.Holding = refl
some_number CallRefusal.NothingWaiting = refl

module _ (b : HeldRow) (i : ℕ) (later : List Rule) where
  -- all rules of a call: the first ones, and then its own
  two : first_rule (place_rules b.count (all_sound b.at) i ++ later) ≡ and_then (row_number b i) (first_rule later)
  unfolding row_number
  two = first_then (place_rules b.count (all_sound b.at) i) later refl

  -- The first rules decide, or the call's own do.
  pub decided : {Gives : Result Station CallRefusal → Type 0} (next : Station) (r : Result HeldRow CallRefusal) → ChangedAt Gives b i r
      → ((x : Result Station CallRefusal) → Gives x → ChangedBy (first_rule later) next x)
      → ChangedBy (first_rule (place_rules b.count (all_sound b.at) i ++ later)) (with_of b i next) r
  unfolding ChangedAt
  decided next (Ok held) (first, gives, is) own =
      let o = own (Ok (station_of held i)) gives in
      (two ∙ rw (first, o.0), is ∙ ap (with_of b i) o.1)
  decided next (Err e) (inl first) own = sym (two ∙ rw (← first, some_number e))
  decided next (Err e) (inr (first, gives)) own = own (Err e) gives ∙ sym (two ∙ rw first)

-- ## The first rules, and then the call's own

module _ (b : HeldRow) (i : ℕ) where
  -- A call that is not turned away for its row or its place is at one of the held places.
  pub place_in : row_number b i ≡ 0 → i < most_stations
  unfolding row_number
  place_in e =
      let n = (none_is (place_rules b.count (all_sound b.at) i) refl).0 e in
      omega (arith, within b.count most_stations n.0, not_at_most b.count i n.1.1.0)

  -- Its own rules decide ..
  pub goes_on : row_number b i ≡ 0 → (later : List Rule) (next : HeldRow) (r : Result HeldRow CallRefusal) → ChangedBy (first_rule later) next r
      → ChangedBy (first_rule (place_rules b.count (all_sound b.at) i ++ later)) next r
  goes_on e later next r c = subst (λ (n : ℕ). ChangedBy n next r) (sym (two b i later)) (rw e c)

  -- .. or the first ones did, and the held row is as it was.
  pub stops : (e : CallRefusal) → called_number (Err e) ≡ row_number b i → (later : List Rule) (next : HeldRow)
      → ChangedBy (first_rule (place_rules b.count (all_sound b.at) i ++ later)) next (Err e) × (held_after b (Err e) ≡ b)
  stops e first later next = (sym (two b i later ∙ rw (← first, some_number e)), refl)

-- ## The rules of each call, at a place that there is

-- 37
pub load_bad : (b : HeldRow) (i : ℕ) (m : List ℕ) → (bad_message m).says ≡ true
    → ChangedBy (load_number m (station_of b i)) (loaded_row b i m) (Err CallRefusal.BadMessage) × (held_after b (Err CallRefusal.BadMessage) ≡ b)
load_bad b i m e = (rw e refl, refl)

-- 36
pub clock_bad : (b : HeldRow) (i : ℕ) (c : Clock) → good_of c ≡ false
    → ChangedBy (clock_number c) (clocked_row b i c) (Err CallRefusal.BadClock) × (held_after b (Err CallRefusal.BadClock) ≡ b)
clock_bad b i c e = (rw e refl, refl)

-- what stands past the end does not matter before it
any_past : (l : List Station) (i : ℕ) (d e : Station) → i < length l → get_or l i d ≡ get_or l i e
any_past [] i d e h = absurd (omega arith)
any_past (x ∷ l) zero d e h = refl
any_past (x ∷ l) (suc i) d e h = any_past l i d e (omega arith)

-- The station is read at the place, whatever stands past the end.
module _ (b : HeldRow) (i : ℕ) (d : Station) (h : i < length b.at) where
  there : get_or b.at i d ≡ station_of b i
  there = any_past b.at i d blank h

  module _ (m : List ℕ) (e : (bad_message m).says ≡ false) where
    -- 41
    pub load_holding : 0 < (get_or b.at i d).len
        → ChangedBy (load_number m (station_of b i)) (loaded_row b i m) (Err CallRefusal.Holding) × (held_after b (Err CallRefusal.Holding) ≡ b)
    load_holding k = (rw (e, ← there, ne_eqb (get_or b.at i d).len 0 (λ z. omega arith)) refl, refl)

    -- loaded
    pub load_done : (get_or b.at i d).len ≤ 0 → (s : Station) → s ≡ loaded m (get_or b.at i d)
        → ChangedBy (load_number m (station_of b i)) (loaded_row b i m) (Ok (with_of b i s))
    load_done k s p = (rw (e, ← there, eq-eqb (get_or b.at i d).len 0 (omega arith)) refl, rw (p, ← there) refl)

  -- 42
  pub withdraw_nothing : (get_or b.at i d).len ≡ 0
      → ChangedBy (withdraw_number (station_of b i)) (withdrawn_row b i) (Err CallRefusal.NothingWaiting) × (held_after b (Err CallRefusal.NothingWaiting) ≡ b)
  withdraw_nothing k = (rw (← there, eq-eqb (get_or b.at i d).len 0 k) refl, refl)

  -- withdrawn
  pub withdraw_done : ((get_or b.at i d).len ≡ 0 → ⊥) → (s : Station) → s ≡ emptied (get_or b.at i d)
      → ChangedBy (withdraw_number (station_of b i)) (withdrawn_row b i) (Ok (with_of b i s))
  withdraw_done k s p = (rw (← there, ne_eqb (get_or b.at i d).len 0 k) refl, rw (p, ← there) refl)

  -- the clock is set
  pub clock_done : (c : Clock) → good_of c ≡ true → (s : Station) → s ≡ clocked c (get_or b.at i d)
      → ChangedBy (clock_number c) (clocked_row b i c) (Ok (with_of b i s))
  clock_done c e s p = (rw e refl, rw (p, ← there) refl)
