-- Laws.
-- How each place of a sound row fares in a round: as what waits there stands to the first of the messages that wait.
use Rattle.std.specs.Prelude.{ℕ, ◌≡◌, refl, ◌≢◌, ◌⊎◌, Bool, true, false, List, [], get_or}
use Rattle.std.proofs.Common.{ap, ◌∙◌, inl, inr}
use Rattle.std.proofs.Math.ListN.{get_or-map}
use Rattle.bench.specs.declared.Station.{Station}
use Rattle.bench.specs.declared.Fared.{Fared}
use Rattle.bench.specs.declared.Fared.TheVariants.{Idle, Through, Lost}
use Rattle.bench.specs.Stations.{empty, waiting_at, blank}
use Rattle.bench.specs.Order.{ahead}
use Rattle.bench.specs.Calls.{all_sound, all_empty}
use Rattle.bench.specs.Histories.{waiting, among}
use Rattle.bench.proofs.First.{first_some, first_or_ahead}
use Rattle.bench.specs.RoundStated.{against, winner_of, station_at, FirstDifference, fare_at}
use Rattle.bench.proofs.RowLaws.{fares_against, row_fares}
use Rattle.bench.proofs.Places.{waiting_at_law, holder_some, at_among, somebody}
use Rattle.bench.specs.Difference.{lost_there, differs, same_through}

module _ (row : List Station) (sound : all_sound row ≡ true) (some : all_empty row ≡ false) where
  fare_is : (i : ℕ) → fare_at row i ≡ fares_against (winner_of row) (station_at row i)
  fare_is i = ap (λ (fs : List Fared). get_or fs i Idle) (row_fares row sound) ∙ get_or-map (fares_against (winner_of row)) row i blank

  among_waiting : (i : ℕ) → waiting_at (station_at row i) ≢ [] → among (waiting_at (station_at row i)) (waiting row) ≡ true
  among_waiting i n = rw (waiting_at_law row i) at (at_among (waiting row) i (rw (waiting_at_law row i) n))

  -- The first of the messages that wait has bits: somebody is a holder.
  pub winner_some : winner_of row ≢ []
  winner_some =
      let h = somebody row some in
      let n : waiting_at (station_at row h.0) ≢ [] = holder_some (station_at row h.0) h.1 in
      first_some (waiting_at (station_at row h.0)) (waiting row) n (among_waiting h.0 n)

  -- A holder fares as its bits do against the winner's.
  pub holder_fares : (i : ℕ) → empty (station_at row i) ≡ false → fare_at row i ≡ against 1 (winner_of row) (waiting_at (station_at row i))
  holder_fares i e = fare_is i ∙ rw e

  -- A place is idle and empty, or it holds the winner and is through, or the winner is ahead of what it holds and it has lost.
  pub data Fate (i : ℕ) : Type 0 where
    is_idle : empty (station_at row i) ≡ true → fare_at row i ≡ Idle → Fate i
    is_through : empty (station_at row i) ≡ false → waiting_at (station_at row i) ≡ winner_of row → fare_at row i ≡ Through → Fate i
    is_lost : {k : ℕ} → empty (station_at row i) ≡ false → ahead (winner_of row) (waiting_at (station_at row i)) ≡ true
        → FirstDifference (winner_of row) (waiting_at (station_at row i)) k → fare_at row i ≡ Lost k → Fate i

  -- One of the three holds of each place.
  pub fate : (i : ℕ) → Fate i
  fate i = go (empty (station_at row i)) refl
    where
      s : Station
      s = station_at row i

      held : empty s ≡ false → (waiting_at s ≡ winner_of row) ⊎ (ahead (winner_of row) (waiting_at s) ≡ true) → Fate i
      held e (inl q) = is_through e q (holder_fares i e ∙ rw q (same_through 1 (winner_of row)))
      held e (inr a) = let d = differs (winner_of row) (waiting_at s) a in is_lost e a d.1 (holder_fares i e ∙ lost_there d.1)

      go : (t : Bool) → empty s ≡ t → Fate i
      go true e = is_idle e (fare_is i ∙ rw e)
      go false e = held e (first_or_ahead (waiting_at s) (waiting row) (among_waiting i (holder_some s e)))
