-- Laws.
-- Who goes out, and where each of the others stops. The winner of a round is the message that is ahead of all others that
-- wait; exactly its holders get through; every other holder loses at the first difference from it.
use Rattle.std.specs.Prelude.{ℕ, zero, suc, ◌-◌, ◌≡◌, refl, ◌≢◌, ◌↔◌, true, false, List, [], ◌∷◌, ◌++◌, map, length, get_or, replicate}
use Rattle.std.proofs.Common.{sym, ap, ◌∙◌, arith, length-append}
use Rattle.std.proofs.lemmas.List.{length-map, length-replicate}
use Rattle.laws.specs.Tests.{never}
use Rattle.bench.specs.declared.Station.{Station}
use Rattle.bench.specs.declared.Fared.{Fared}
use Rattle.bench.specs.declared.Fared.TheVariants.{Idle, Through, Lost}
use Rattle.bench.specs.declared.Verdict.{Verdict}
use Rattle.bench.specs.Stations.{most_stations, Bits, empty, waiting_at}
use Rattle.bench.specs.Order.{Ahead}
use Rattle.bench.proofs.OrderLaws.{ahead_is, ahead_differs}
use Rattle.bench.specs.Round.{round_of, verdict_of, verdicts_of}
use Rattle.bench.specs.Calls.{round, taken, all_sound, all_empty}
use Rattle.bench.specs.Histories.{waiting}
use Rattle.bench.proofs.First.{first_among}
use Rattle.bench.proofs.RowLaws.{fares_against, row_fares}
use Rattle.bench.specs.RoundStated.{winner_of, station_at, FirstDifference, fare_at, Wins}
use Rattle.bench.specs.Taken.{round_taken}
use Rattle.bench.proofs.Places.{waiting_at_law, empty_none, some_holder, among_at}
use Rattle.bench.specs.Difference.{lost_there}
use Rattle.bench.proofs.Fates.{winner_some, Fate, is_idle, is_through, is_lost, fate, holder_fares}

-- ## The winner

-- no place fares in two ways
idle_through : {A : Type 0} {f : Fared} → f ≡ Idle → f ≡ Through → A
idle_through p q = let z : ◌≡◌ {A = ℕ} 0 1 = cc in absurd (omega arith)

idle_lost : {A : Type 0} {f : Fared} {k : ℕ} → f ≡ Idle → f ≡ Lost k → A
idle_lost p q = let z : ◌≡◌ {A = ℕ} 0 1 = cc in absurd (omega arith)

through_lost : {A : Type 0} {f : Fared} {k : ℕ} → f ≡ Through → f ≡ Lost k → A
through_lost p q = let z : ◌≡◌ {A = ℕ} 0 1 = cc in absurd (omega arith)

module _ (row : List Station) (sound : all_sound row ≡ true) (some : all_empty row ≡ false) where
  leads_at : (i : ℕ) → Fate row sound some i → empty (station_at row i) ≡ false → waiting_at (station_at row i) ≢ winner_of row
      → Ahead (winner_of row) (waiting_at (station_at row i))
  leads_at i (is_idle e f) h n = never e h
  leads_at i (is_through e q f) h n = absurd (n q)
  leads_at i (is_lost e a d f) h n = (ahead_is (winner_of row) (waiting_at (station_at row i))).0 a

  through_at : (i : ℕ) → Fate row sound some i → (fare_at row i ≡ Through) ↔ (waiting_at (station_at row i) ≡ winner_of row)
  through_at i (is_idle e f) = (λ g. idle_through f g, λ q. absurd (winner_some row sound some (sym q ∙ empty_none (station_at row i) e)))
  through_at i (is_through e q f) = (λ g. q, λ g. f)
  through_at i (is_lost e a d f) = (λ g. through_lost g f, λ q. absurd (ahead_differs (winner_of row) (waiting_at (station_at row i)) a (sym q)))

  idle_at : (i : ℕ) → Fate row sound some i → (fare_at row i ≡ Idle) ↔ (empty (station_at row i) ≡ true)
  idle_at i (is_idle e f) = (λ g. e, λ g. f)
  idle_at i (is_through e q f) = (λ g. idle_through g f, λ g. never g e)
  idle_at i (is_lost e a d f) = (λ g. idle_lost g f, λ g. never g e)

  lost_at_law : (i k : ℕ) → Fate row sound some i
      → (fare_at row i ≡ Lost k) ↔ ((empty (station_at row i) ≡ false) × FirstDifference (winner_of row) (waiting_at (station_at row i)) k)
  lost_at_law i k (is_idle e f) = (λ g. idle_lost f g, λ g. never e g.0)
  lost_at_law i k (is_through e q f) = (λ g. through_lost f g, λ g. holder_fares row sound some i e ∙ lost_there g.1)
  lost_at_law i k (is_lost {k = j} e a d f) =
      (λ g. let same : j ≡ k = cc in (e, rw (← same) d), λ g. holder_fares row sound some i e ∙ lost_there g.1)

  first_wins : Wins row (winner_of row)
  first_wins =
      let h = among_at (winner_of row) (waiting row) (first_among (waiting row) (winner_some row sound some)) in
      let q : waiting_at (station_at row h.0) ≡ winner_of row = sym (waiting_at_law row h.0) ∙ h.1 in
      record {
        holder = h.0;
        holds = some_holder (station_at row h.0) (λ z. winner_some row sound some (sym q ∙ z));
        its_bits = q;
        leads = λ i. leads_at i (fate row sound some i);
        through = λ i. through_at i (fate row sound some i);
        idle = λ i. idle_at i (fate row sound some i);
      }

-- THE WINNER. In a round that is not turned away, the first of the messages that wait wins.
pub wins : (lent : List ℕ) (row : List Station) → taken (round lent) row ≡ true → Wins row (winner_of row)
wins lent row t = let r = round_taken lent row t in first_wins row r.passed.sound r.somebody

-- No second message wins.
pub wins_once : {row : List Station} {w v : Bits} → Wins row w → Wins row v → w ≡ v
wins_once a b = sym a.its_bits ∙ (b.through a.holder).0 ((a.through a.holder).1 a.its_bits)

-- THE LOSERS. In a round that is not turned away, a place has lost at bit k exactly where it holds a message and k is the first
-- bit where the winner's bits differ from its own, or one past its last bit.
pub loses : (lent : List ℕ) (row : List Station) → taken (round lent) row ≡ true → (i k : ℕ)
    → (fare_at row i ≡ Lost k) ↔ ((empty (station_at row i) ≡ false) × FirstDifference (winner_of row) (waiting_at (station_at row i)) k)
loses lent row t i k =
    let r = round_taken lent row t in lost_at_law row r.passed.sound r.somebody i k (fate row r.passed.sound r.somebody i)

-- ## The verdicts

idle_past : (n i : ℕ) → get_or (replicate n (verdict_of Idle)) i (verdict_of Idle) ≡ verdict_of Idle
idle_past zero i = refl
idle_past (suc n) zero = refl
idle_past (suc n) (suc i) = idle_past n i

padded_at : (fs : List Fared) (n i : ℕ) → get_or (map verdict_of fs ++ replicate n (verdict_of Idle)) i (verdict_of Idle) ≡ verdict_of (get_or fs i Idle)
padded_at [] n i = idle_past n i
padded_at (f ∷ fs) n zero = refl
padded_at (f ∷ fs) n (suc i) = padded_at fs n i

-- What the verdicts say of each place is how it fared, idle past the row.
pub verdict_at_law : (row : List Station) (i : ℕ) → get_or (verdicts_of (round_of row).fares) i (verdict_of Idle) ≡ verdict_of (fare_at row i)
verdict_at_law row i = padded_at (round_of row).fares (most_stations - length (round_of row).fares) i

-- There are 32 of them.
pub verdicts_32 : (lent : List ℕ) (row : List Station) → taken (round lent) row ≡ true → length (verdicts_of (round_of row).fares) ≡ most_stations
verdicts_32 lent row t =
    let r = (round_taken lent row t).passed in
    let fs = (round_of row).fares in
    let n : length fs ≡ length row = ap length (row_fares row r.sound) ∙ length-map row (fares_against (winner_of row)) in
    let pad : List Verdict = replicate (most_stations - length fs) (verdict_of Idle) in
    omega (
      arith,
      length-append (map verdict_of fs) pad,
      length-map fs verdict_of,
      length-replicate (most_stations - length fs) (verdict_of Idle),
    )
