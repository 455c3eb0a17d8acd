-- Laws.
-- What each call does to the messages that wait in a row.
use Rattle.std.specs.Prelude.{ℕ, zero, suc, ◌≤◌, ◌≡◌, refl, ◌⊎◌, ◌≢◌, Bool, true, false, cond, List, [], ◌∷◌, map, length, drop, get_or, set}
use Rattle.std.proofs.Common.{sym, ap₂, ◌∙◌, inl, inr, arith, ne_eqb}
use Rattle.std.proofs.Math.Path.{ap}
use Rattle.std.proofs.Math.Seq.{set-get_or, take-append_seam}
use Rattle.symbol.specs.declared.Clock.{Clock}
use Rattle.bench.specs.declared.Station.{Station}
use Rattle.bench.specs.declared.Fared.TheVariants.{Idle}
use Rattle.bench.specs.Stations.{Bits, bits_sent, stored, empty, waiting_at}
use Rattle.bench.specs.Order.{ahead, same_bits}
use Rattle.bench.proofs.OrderLaws.{equal_or_ahead, ahead_differs, same_refl, different_same}
use Rattle.bench.specs.Round.{emptied, after_fare, after_fares}
use Rattle.bench.specs.Calls.{Call, load, withdraw, set_clock, round, taken, loaded, clocked, done, after}
use Rattle.bench.specs.Histories.{waiting}
use Rattle.bench.proofs.First.{none_ahead}
use Rattle.bench.specs.RoundStated.{first, against, winner_of, station_at}
use Rattle.bench.proofs.RowLaws.{fares_against, row_fares}
use Rattle.bench.specs.Difference.{lost_there, differs, same_through}
use Rattle.bench.proofs.Places.{waiting_at_law, at_among}
use Rattle.bench.specs.Taken.{load_taken, round_taken}
use Rattle.bench.specs.WaitStated.{without}

-- ## One station changed

waiting_set : (row : List Station) (i : ℕ) (s : Station) → waiting (set row i s) ≡ set (waiting row) i (waiting_at s)
unfolding waiting
waiting_set [] i s = refl
waiting_set (x ∷ row) zero s = refl
waiting_set (x ∷ row) (suc i) s = ap (λ (r : List Bits). waiting_at x ∷ r) (waiting_set row i s)

-- What waits at a station just loaded is the message.
pub loaded_waits : (m : List ℕ) (s : Station) → 1 ≤ length m → waiting_at (loaded m s) ≡ bits_sent m
loaded_waits m s h = rw (ne_eqb (length m) 0 (λ e. omega arith), take-append_seam m (drop (length m) s.bytes))

module _ (row : List Station) (i : ℕ) where
  -- A loading puts the message at its place.
  pub load_waiting : (m : List ℕ) → taken (load i m) row ≡ true → waiting (after (load i m) row) ≡ set (waiting row) i (bits_sent m)
  unfolding after done
  load_waiting m t =
      rw t (waiting_set row i (loaded m (station_at row i)) ∙ ap (set (waiting row) i) (loaded_waits m (station_at row i) (load_taken i m row t).some))

  -- A withdrawal leaves its place empty.
  pub withdraw_waiting : taken (withdraw i) row ≡ true → waiting (after (withdraw i) row) ≡ set (waiting row) i []
  unfolding after done
  withdraw_waiting t = rw t (waiting_set row i (emptied (station_at row i)))

  -- Setting a clock changes no message.
  pub clock_waiting : (c : Clock) → taken (set_clock i c) row ≡ true → waiting (after (set_clock i c) row) ≡ waiting row
  unfolding after done
  clock_waiting c t =
      rw t (waiting_set row i (clocked c (station_at row i)) ∙ ap (set (waiting row) i) (sym (waiting_at_law row i)) ∙ set-get_or (waiting row) i [])

-- A call that is turned away changes nothing.
pub away_same : (c : Call) (row : List Station) → taken c row ≡ false → after c row ≡ row
unfolding after
away_same c row e = rw e

-- ## A round

-- none of the messages is ahead of w
abbrev NotAhead : Bits → List Bits → Type 0
NotAhead w [] = Unit {0}
NotAhead w (x ∷ xs) = (ahead x w ≡ false) × NotAhead w xs

not_ahead : (w : Bits) (xs : List Bits) → ((i : ℕ) → ahead (get_or xs i []) w ≡ false) → NotAhead w xs
not_ahead w [] h = tt
not_ahead w (x ∷ xs) h = (h 0, not_ahead w xs (λ i. h (suc i)))

none_before : (xs : List Bits) (i : ℕ) → ahead (get_or xs i []) (first xs) ≡ false
unfolding ahead
none_before xs i = go (get_or xs i []) refl
  where
    go : (x : Bits) → get_or xs i [] ≡ x → ahead x (first xs) ≡ false
    go [] e = refl
    go (b ∷ x) e = rw e at (none_ahead (get_or xs i []) xs (at_among xs i (λ q. nothing b x (sym e ∙ q))))
      where
        nothing : (b : Bool) (x : Bits) → b ∷ x ≢ []
        nothing b x q = let z : ◌≡◌ {A = ℕ} 0 1 = cc in omega arith

fared_waits : (w : Bits) (s : Station) → ahead (waiting_at s) w ≡ false
    → waiting_at (after_fare (fares_against w s) s) ≡ cond (same_bits (waiting_at s) w) [] (waiting_at s)
fared_waits w s a = go (empty s) refl
  where
    m : Bits
    m = bits_sent (stored s)

    nowhere : (t : Bool) → [] ≡ cond {A = Bits} t [] []
    nowhere true = refl
    nowhere false = refl

    held : empty s ≡ false → (m ≡ w) ⊎ (ahead w m ≡ true) → waiting_at (after_fare (against 1 w m) s) ≡ cond (same_bits m w) [] m
    held e (inl q) = rw (q, same_through 1 w, same_refl w)
    held e (inr h) =
        let d = differs w m h in
        rw (lost_there d.1, different_same m w (λ q. ahead_differs w m h (sym q)), e)

    go : (t : Bool) → empty s ≡ t → waiting_at (after_fare (cond t Idle (against 1 w m)) s) ≡ cond (same_bits (cond t [] m) w) [] (cond t [] m)
    go true e = rw e (nowhere (same_bits [] w))
    go false e = held e (equal_or_ahead m w (rw e at a))

fares_waiting : (w : Bits) (row : List Station) → NotAhead w (waiting row)
    → waiting (after_fares (map (fares_against w) row) row) ≡ without w (waiting row)
unfolding waiting after_fares without
fares_waiting w [] h = refl
fares_waiting w (s ∷ row) h = ap₂ (λ (x : Bits) (xs : List Bits). x ∷ xs) (fared_waits w s h.0) (fares_waiting w row h.1)

-- A round takes the winner out of the row, wherever it waits, and nothing else.
pub round_waiting : (lent : List ℕ) (row : List Station) → taken (round lent) row ≡ true
    → waiting (after (round lent) row) ≡ without (winner_of row) (waiting row)
unfolding after done
round_waiting lent row t =
    rw (t, row_fares row (round_taken lent row t).passed.sound)
    (fares_waiting (winner_of row) row (not_ahead (winner_of row) (waiting row) (none_before (waiting row))))
