-- Laws.
-- How long a message waits, over any history of calls that keep their promises, each taken or turned away: one call at a time,
-- then all of them.
use Rattle.std.specs.Prelude.{ℕ, ◌+◌, ◌≤◌, ◌≡◌, refl, ◌≢◌, Bool, true, false, List, [], ◌∷◌, ◌++◌, eqb, get_or, set}
use Rattle.std.proofs.Common.{sym, ap, subst, ◌∙◌, arith, get_or-set_other, eqb-true}
use Rattle.std.proofs.lemmas.Bool.{eqb-false}
use Rattle.laws.specs.Tests.{never}
use Rattle.symbol.specs.declared.Clock.{Clock}
use Rattle.bench.specs.declared.Station.{Station}
use Rattle.bench.specs.Stations.{Bits, bits_sent, blank}
use Rattle.bench.proofs.OrderLaws.{ahead_differs, different_same}
use Rattle.bench.specs.Calls.{load, withdraw, set_clock, round, taken, after}
use Rattle.bench.specs.Promise.{RoundTold, Called, called_number, told_number, LoadPromise, WithdrawPromise, ClockPromise, RoundPromise}
use Rattle.bench.specs.Histories.{waiting, CallMade, loads, withdraws, sets_clock, plays, call_of, Keeps, Happens, nothing, then, round_seen, rounds_seen, load_seen, loads_seen, traffic_seen}
use Rattle.bench.specs.HistoryLaws.{accepted_taken, row_after}
use Rattle.bench.proofs.First.{first_among}
use Rattle.bench.proofs.RowLaws.{sent_some}
use Rattle.bench.specs.RoundStated.{winner_of}
use Rattle.bench.proofs.Places.{waiting_at_law, empty_none, at_among}
use Rattle.bench.specs.Taken.{load_taken}
use Rattle.bench.proofs.Counting.{without_at, Turn, goes_now, waits_on, turn, set_count, unset_count}
use Rattle.bench.proofs.CallLaws.{load_waiting, withdraw_waiting, clock_waiting, round_waiting, away_same}
use Rattle.bench.specs.WaitStated.{WaitsAt, ahead_now, GoesOut}

-- ## One call

-- While m waits at s, a call is the round in which it goes out, when nothing is ahead of it; or its withdrawal; or it leaves m
-- where it is, and then what is ahead of m is no more than before, less one for a round, more one for a loading ahead of m.
pub data Step (s : ℕ) (m : Bits) (e : CallMade) (row next : List Station) : Type 0 where
  goes : (lent lent_exit : List ℕ) (a : RoundTold) → e ≡ plays lent lent_exit a → taken (round lent) row ≡ true → winner_of row ≡ m
      → ahead_now m row ≡ 0 → Step s m e row next
  back : (a : Called) → e ≡ withdraws s a → called_number a ≡ 0 → Step s m e row next
  stays : WaitsAt s m next → round_seen e + ahead_now m next ≤ ahead_now m row + load_seen m e
      → (traffic_seen e ≡ false → round_seen e + ahead_now m next ≡ ahead_now m row)
      → Step s m e row next

module _ (s : ℕ) (m : Bits) (some : m ≢ []) (row next : List Station) (h : WaitsAt s m row) where
  -- a loading goes to an empty place, which is another one
  elsewhere : (i : ℕ) (x : List ℕ) → taken (load i x) row ≡ true → s ≢ i
  elsewhere i x t q =
      let free : get_or (waiting row) i [] ≡ [] = waiting_at_law row i ∙ empty_none (get_or row i blank) (load_taken i x row t).free in
      some (sym h ∙ ap (λ (j : ℕ). get_or (waiting row) j []) q ∙ free)

  -- the row after a call that is turned away
  same : (e : CallMade) → Keeps e row next → taken (call_of e) row ≡ false → next ≡ row
  same e k t = row_after e row next k ∙ away_same (call_of e) row t

  -- what waits after one that is taken
  waits_now : (e : CallMade) {ms : List Bits} → Keeps e row next → waiting (after (call_of e) row) ≡ ms → waiting next ≡ ms
  waits_now e k w = ap waiting (row_after e row next k) ∙ w

  step_load : (i : ℕ) (x : List ℕ) (a : Called) → LoadPromise i x row next a → Step s m (loads i x a) row next
  step_load i x a k = go (taken (load i x) row) refl
    where
      said : eqb (called_number a) 0 ≡ taken (load i x) row
      said = accepted_taken (loads i x a) row next k

      go : (t : Bool) → taken (load i x) row ≡ t → Step s m (loads i x a) row next
      go true t =
          let w : waiting next ≡ set (waiting row) i (bits_sent x) = waits_now (loads i x a) k (load_waiting row i x t) in
          stays
          (rw w (get_or-set_other (waiting row) i s (bits_sent x) [] (elsewhere i x t) ∙ h))
          (rw (w, said ∙ t) (omega (arith, set_count m (waiting row) i (bits_sent x))))
          (λ d. never (said ∙ t) d)
      go false t = let w = same (loads i x a) k t in stays (rw w h) (rw (w, said ∙ t) (omega arith)) (λ d. rw w (omega arith))

  step_withdraw : (i : ℕ) (a : Called) → WithdrawPromise i row next a → Step s m (withdraws i a) row next
  step_withdraw i a k = go (taken (withdraw i) row) refl
    where
      said : eqb (called_number a) 0 ≡ taken (withdraw i) row
      said = accepted_taken (withdraws i a) row next k

      here : taken (withdraw i) row ≡ true → (b : Bool) → eqb s i ≡ b → Step s m (withdraws i a) row next
      here t true e = back a (ap (λ (j : ℕ). withdraws j a) (sym (eqb-true s i e))) (eqb-true (called_number a) 0 (said ∙ t))
      here t false e =
          let w : waiting next ≡ set (waiting row) i [] = waits_now (withdraws i a) k (withdraw_waiting row i t) in
          stays
          (rw w (get_or-set_other (waiting row) i s [] [] (eqb-false s i e) ∙ h))
          (rw w (omega (arith, unset_count m (waiting row) i)))
          (λ d. never (said ∙ t) d)

      go : (t : Bool) → taken (withdraw i) row ≡ t → Step s m (withdraws i a) row next
      go true t = here t (eqb s i) refl
      go false t = let w = same (withdraws i a) k t in stays (rw w h) (rw w (omega arith)) (λ d. rw w (omega arith))

  step_clock : (i : ℕ) (c : Clock) (a : Called) → ClockPromise i c row next a → Step s m (sets_clock i c a) row next
  step_clock i c a k = go (taken (set_clock i c) row) refl
    where
      go : (t : Bool) → taken (set_clock i c) row ≡ t → Step s m (sets_clock i c a) row next
      go true t =
          let w : waiting next ≡ waiting row = waits_now (sets_clock i c a) k (clock_waiting row i c t) in
          stays (rw w h) (rw w (omega arith)) (λ d. rw w (omega arith))
      go false t = let w = same (sets_clock i c a) k t in stays (rw w h) (rw w (omega arith)) (λ d. rw w (omega arith))

  step_round : (lent lent_exit : List ℕ) (a : RoundTold) → RoundPromise row next lent lent_exit a → Step s m (plays lent lent_exit a) row next
  step_round lent lent_exit a k = go (taken (round lent) row) refl
    where
      said : eqb (told_number a) 0 ≡ taken (round lent) row
      said = accepted_taken (plays lent lent_exit a) row next k

      played : taken (round lent) row ≡ true → Turn m (waiting row) → Step s m (plays lent lent_exit a) row next
      played t (goes_now e z) = goes lent lent_exit a refl t e z
      played t (waits_on f z) =
          let w = waits_now (plays lent lent_exit a) k (round_waiting lent row t) in
          stays
          (rw w (without_at s (winner_of row) (waiting row) ∙ rw (h, different_same m (winner_of row) (λ q. ahead_differs (winner_of row) m f (sym q)))))
          (rw (w, said ∙ t) (omega arith))
          (λ d. rw (w, said ∙ t) (omega arith))

      go : (t : Bool) → taken (round lent) row ≡ t → Step s m (plays lent lent_exit a) row next
      go true t = played t (turn m (waiting row) (rw h at (at_among (waiting row) s (rw h some))) (first_among (waiting row)))
      go false t =
          let w = same (plays lent lent_exit a) k t in
          stays (rw w h) (rw (w, said ∙ t) (omega arith)) (λ d. rw (w, said ∙ t) (omega arith))

  -- Every call is one of the three.
  pub step : (e : CallMade) → Keeps e row next → Step s m e row next
  step (loads i x a) k = step_load i x a k
  step (withdraws i a) k = step_withdraw i a k
  step (sets_clock i c a) k = step_clock i c a k
  step (plays lent lent_exit a) k = step_round lent lent_exit a k

-- ## All calls of a history

-- The message x is withdrawn from place s by a call of the history, while it waits.
pub record TakenBack (s : ℕ) (x : List ℕ) (row : List Station) (events : List CallMade) : Type 0 where
  pub before : List CallMade
  pub answer : Called
  pub later : List CallMade
  pub parts : events ≡ before ++ (withdraws s answer ∷ later)
  pub accepted : called_number answer ≡ 0
  pub entry : List Station
  pub until : Happens row before entry
  pub held : WaitsAt s (bits_sent x) entry

-- What has become of the message x, which waited at place s.
pub data Fate (s : ℕ) (x : List ℕ) (row : List Station) (events : List CallMade) (exit : List Station) : Type 0 where
  out : GoesOut s x row events → Fate s x row events exit
  withdrawn : TakenBack s x row events → Fate s x row events exit
  waits : WaitsAt s (bits_sent x) exit → rounds_seen events + ahead_now (bits_sent x) exit ≤ ahead_now (bits_sent x) row + loads_seen x events
      → Fate s x row events exit

-- What becomes of a message over any history: it goes out in time, or is withdrawn, or still waits and is in time.
pub fate : (s : ℕ) (x : List ℕ) {row exit : List Station} {events : List CallMade} → Happens row events exit → WaitsAt s (bits_sent x) row
    → Fate s x row events exit
unfolding rounds_seen loads_seen
fate s x nothing h = waits h (omega arith)
fate s x (then {entry} {middle} {exit} {e} {events} k r) h = go (step s (bits_sent x) (sent_some x) entry middle h e k) (fate s x r)
  where
    go : Step s (bits_sent x) e entry middle → (WaitsAt s (bits_sent x) middle → Fate s x middle events exit) → Fate s x entry (e ∷ events) exit
    go (goes lent lent_exit a q t w z) ih =
        out (record {
          before = [];
          lent = lent;
          lent_exit = lent_exit;
          answer = a;
          later = events;
          parts = ap (λ (y : CallMade). y ∷ events) q;
          entry = entry;
          exit = middle;
          until = nothing;
          keeps = subst (λ (y : CallMade). Keeps y entry middle) q k;
          played = t;
          held = h;
          wins = w;
          latest = omega arith;
          exactly = λ p. omega arith;
        })
    go (back a q t) ih =
        withdrawn (record {
          before = [];
          answer = a;
          later = events;
          parts = ap (λ (y : CallMade). y ∷ events) q;
          accepted = t;
          entry = entry;
          until = nothing;
          held = h;
        })
    go (stays g l q) ih = on (ih g)
      where
        on : Fate s x middle events exit → Fate s x entry (e ∷ events) exit
        on (waits f b) = waits f (omega arith)
        on (withdrawn f) =
            withdrawn (record {
              before = e ∷ f.before;
              answer = f.answer;
              later = f.later;
              parts = ap (λ (y : List CallMade). e ∷ y) f.parts;
              accepted = f.accepted;
              entry = f.entry;
              until = then k f.until;
              held = f.held;
            })
        on (out f) =
            let n = f.latest in
            out (record {
              before = e ∷ f.before;
              lent = f.lent;
              lent_exit = f.lent_exit;
              answer = f.answer;
              later = f.later;
              parts = ap (λ (y : List CallMade). e ∷ y) f.parts;
              entry = f.entry;
              exit = f.exit;
              until = then k f.until;
              keeps = f.keeps;
              played = f.played;
              held = f.held;
              wins = f.wins;
              latest = omega arith;
              exactly = λ p. omega (arith, q p.0, f.exactly p.1);
            })
