-- Laws.
-- Demand 3 with no count left to suppose: load a message, then only run rounds with 101 words lent, and it goes out in round
-- A + 1.
use Rattle.std.specs.Prelude.{ℕ, zero, suc, ◌+◌, ◌≤◌, ◌≡◌, refl, ◌≢◌, Bool, true, false, cond, ◌&&◌, List, [], ◌∷◌, eqb, length, get_or, Ok}
use Rattle.std.proofs.Common.{sym, subst, ◌∙◌, ⊎_elim, arith}
use Rattle.laws.specs.Tests.{never}
use Rattle.checkbyte.specs.Register.{Bytes}
use Rattle.frame.specs.Writing.{most_words}
use Rattle.bench.specs.declared.Station.{Station}
use Rattle.bench.specs.Stations.{Bits, empty}
use Rattle.bench.specs.Order.{same_bits}
use Rattle.bench.specs.Calls.{Call, load, round, all_empty, taken, after}
use Rattle.bench.specs.Promise.{told_number, LoadPromise}
use Rattle.bench.specs.Histories.{waiting, ahead_in, CallMade, loads, withdraws, sets_clock, plays, Happens, nothing, then, rounds_seen, NoTrafficSeen}
use Rattle.bench.specs.HistoryLaws.{accepted_taken}
use Rattle.bench.proofs.RowLaws.{sent_some}
use Rattle.bench.specs.RoundStated.{winner_of, station_at, RowPassed}
use Rattle.bench.proofs.Places.{waiting_at_law, some_holder}
use Rattle.bench.specs.Taken.{taken_when, load_taken}
use Rattle.bench.specs.RowShows.{same_length, stays_sound}
use Rattle.bench.proofs.Counting.{without_at}
use Rattle.bench.proofs.CallLaws.{round_waiting, away_same}
use Rattle.bench.proofs.WaitingEnds.{Becomes, goes_out, is_withdrawn, still_waits, outcome, loading_taken, kept, quiet_kept, quiet_loads, quiet_before}
use Rattle.bench.specs.WaitStated.{GoesOutInTime, OnlyRounds}

-- ## A round that has something to do is taken

not_all_empty : (row : List Station) (i : ℕ) → empty (station_at row i) ≡ false → all_empty row ≡ false
unfolding all_empty
not_all_empty [] i e = never refl e
not_all_empty (s ∷ row) zero e = rw e
not_all_empty (s ∷ row) (suc i) e = go (empty s) (not_all_empty row i e)
  where
    go : (t : Bool) → all_empty row ≡ false → (t && all_empty row) ≡ false
    go true h = h
    go false h = refl

-- Where 38 and 39 do not turn it away, a round with 101 words lent is taken while a message waits.
pub round_is_taken : (lent : List ℕ) (row : List Station) → RowPassed row → most_words ≤ length lent → (s : ℕ) → get_or (waiting row) s [] ≢ []
    → taken (round lent) row ≡ true
round_is_taken lent row p w s n =
    let somebody = not_all_empty row s (some_holder (station_at row s) (λ e. n (waiting_at_law row s ∙ e))) in
    (taken_when (round lent) row).1 (
      ⊎_elim (λ e. omega (arith, p.some)) (λ l. omega (arith, p.few)),
      (never p.sound, (λ l. omega arith, (λ e. never e somebody, tt))),
    )

-- and its row passes 38 and 39 again
passes_on : (c : Call) (row : List Station) → RowPassed row → RowPassed (after c row)
passes_on c row p =
    record { some = rw (same_length c row) p.some; few = rw (same_length c row) p.few; sound = stays_sound c row p.sound }

-- ## Rounds and nothing else

waited : (lent : List ℕ) (row : List Station) (s : ℕ) → get_or (waiting (after (round lent) row)) s [] ≢ [] → get_or (waiting row) s [] ≢ []
waited lent row s n e = go (taken (round lent) row) refl
  where
    either : (t : Bool) → cond {A = Bits} t [] [] ≡ []
    either true = refl
    either false = refl

    go : (t : Bool) → taken (round lent) row ≡ t → ⊥
    go true t = n (rw (round_waiting lent row t) (without_at s (winner_of row) (waiting row) ∙ rw e (either (same_bits [] (winner_of row)))))
    go false t = n (rw (away_same (round lent) row t) e)

only_quiet : (events : List CallMade) → OnlyRounds events → NoTrafficSeen events
only_quiet [] o = tt
only_quiet (loads i m a ∷ events) o = absurd o.0
only_quiet (withdraws i a ∷ events) o = absurd o.0
only_quiet (sets_clock i c a ∷ events) o = absurd o.0
only_quiet (plays lent lent_exit a ∷ events) o = (refl, only_quiet events o.1)

-- what waits after them has waited before
waited_all : {row exit : List Station} {events : List CallMade} (s : ℕ) → Happens row events exit → OnlyRounds events → get_or (waiting exit) s [] ≢ []
    → get_or (waiting row) s [] ≢ []
waited_all s nothing o n = n
waited_all s (then {e = loads i m a} k h) o n = absurd o.0
waited_all s (then {e = withdraws i a} k h) o n = absurd o.0
waited_all s (then {e = sets_clock i c a} k h) o n = absurd o.0
waited_all s (then {entry} {e = plays lent lent_exit a} k h) o n =
    waited lent entry s (subst (λ (r : List Station). get_or (waiting r) s [] ≢ []) k.leaves_it (waited_all s h o.1 n))

-- while a message waits, each of them is played
all_played : {row exit : List Station} {events : List CallMade} (s : ℕ) → Happens row events exit → OnlyRounds events → RowPassed row
    → get_or (waiting exit) s [] ≢ [] → rounds_seen events ≡ length events
unfolding rounds_seen
all_played s nothing o p n = refl
all_played s (then {e = loads i m a} k h) o p n = absurd o.0
all_played s (then {e = withdraws i a} k h) o p n = absurd o.0
all_played s (then {e = sets_clock i c a} k h) o p n = absurd o.0
all_played s (then {entry} {middle} {e = plays lent lent_exit a} {events} k h) o p n =
    let t = round_is_taken lent entry p o.0 s (waited_all s (then {e = plays lent lent_exit a} k h) o n) in
    let played : eqb (told_number a) 0 ≡ true = accepted_taken (plays lent lent_exit a) entry middle k ∙ t in
    let on : RowPassed middle = subst RowPassed (sym k.leaves_it) (passes_on (round lent) entry p) in
    rw played (omega (arith, all_played s h o.1 on n))

-- RUN ROUNDS AND IT GOES OUT. A message is loaded; then A + 1 rounds are called for, each with 101 words lent, and nothing else.
-- It goes out, whole and readable, in exactly round A + 1.
pub runs_out : (s : ℕ) (x : List ℕ) (start : List Station) → Bytes x → {row : List Station} → LoadPromise s x start row (Ok tt)
    → {events : List CallMade} {exit : List Station} → Happens row events exit → OnlyRounds events → length events ≡ ahead_in start x + 1
    → (g : GoesOutInTime s x start row events) × (rounds_seen g.out.before + 1 ≡ ahead_in start x + 1)
runs_out s x start b {row} loaded {events} {exit} h o l = go (outcome s x start b loaded h)
  where
    quiet : NoTrafficSeen events
    quiet = only_quiet events o

    passed : RowPassed row
    passed = subst RowPassed (sym loaded.leaves_it) (passes_on (load s x) start (load_taken s x start (loading_taken s x start b loaded)).passed)

    go : Becomes s x start row events exit → (g : GoesOutInTime s x start row events) × (rounds_seen g.out.before + 1 ≡ ahead_in start x + 1)
    go (goes_out g) =
        (g, g.exactly (quiet_before g.out.before (plays g.out.lent g.out.lent_exit g.out.answer ∷ g.out.later) (rw g.out.parts at quiet)))
    go (is_withdrawn w) = absurd (kept s w.before w.later w.answer (rw w.parts at (quiet_kept s events quiet)) w.accepted)
    go (still_waits f n) =
        let played : rounds_seen events ≡ length events = all_played s h o passed (λ e. sent_some x (sym f ∙ e)) in
        absurd (omega (arith, quiet_loads x events quiet))
