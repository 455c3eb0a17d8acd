-- Laws.
-- Demand 3: waiting ends. A message that is loaded and not withdrawn goes out, whole and readable, no later than round
-- 1 + A + L from its loading; with no loading or withdrawal in exactly round A + 1. Whatever rows, words and answers keep the
-- promises, it is so, and is seen by the answers alone.
use Rattle.std.specs.Prelude.{ℕ, ◌+◌, ◌≤◌, ◌≡◌, refl, true, false, List, [], ◌∷◌, ◌++◌, eqb, length, get_or, Ok}
use Rattle.std.proofs.Common.{sym, ap, ◌∙◌, arith, get_or-set_same}
use Rattle.std.proofs.Math.Bool.{and-false}
use borrow.Author.Tests.{eq-eqb}
use Rattle.laws.specs.Tests.{never}
use Rattle.checkbyte.specs.Register.{Bytes}
use Rattle.bench.specs.declared.Station.{Station}
use Rattle.bench.specs.declared.Fared.TheVariants.{Idle}
use Rattle.bench.specs.Stations.{most_stored, Bits, bits_sent, waiting_at}
use Rattle.bench.proofs.OrderLaws.{same_refl}
use Rattle.bench.specs.Round.{round_of, verdict_of}
use Rattle.bench.specs.Calls.{load, round, number_of, taken}
use Rattle.bench.specs.Promise.{RoundTold, Called, called_number, LoadPromise, RoundPromise, RoundSaid, said, played, round_says}
use Rattle.bench.specs.Histories.{waiting, ahead_in, CallMade, loads, withdraws, sets_clock, plays, Happens, rounds_seen, load_seen, loads_seen, withdrawal_seen, NoWithdrawalSeen, traffic_seen, NoTrafficSeen}
use Rattle.bench.specs.RoundExactlyWhen.{said_number}
use Rattle.bench.specs.RoundStated.{winner_of, station_at}
use Rattle.bench.proofs.Places.{waiting_at_law, waiting_length, empty_none}
use Rattle.bench.specs.Taken.{LoadTaken, load_taken}
use Rattle.bench.proofs.Winner.{wins, verdict_at_law}
use Rattle.bench.proofs.LineTime.{on_the_line, words_first}
use Rattle.bench.proofs.Counting.{own_count, without_at}
use Rattle.bench.proofs.CallLaws.{load_waiting, round_waiting}
use Rattle.bench.proofs.Readable.{round_reads}
use Rattle.bench.proofs.Waiting.{TakenBack, Fate, out, withdrawn, waits, fate}
use Rattle.bench.specs.WaitStated.{WaitsAt, ahead_now, GoesOut, RoundCarries, GoesOutInTime}

-- ## What it is to go out

module _ (s : ℕ) (x : List ℕ) (b : Bytes x) (lo : 1 ≤ length x) (hi : length x ≤ most_stored) {row exit : List Station} {lent lent_exit : List ℕ} {a : RoundTold}
    (p : RoundPromise row exit lent lent_exit a) (t : taken (round lent) row ≡ true) (h : WaitsAt s (bits_sent x) row) (w : winner_of row ≡ bits_sent x) where
  says : said a ≡ played (round_of row)
  unfolding round_says
  says = p.says_it ∙ rw t

  words : (said a).words ≡ length (round_of row).words
  words = ap (λ (r : RoundSaid). r.words) says

  time_is : (said a).line_time ≡ (round_of row).line_time
  time_is = ap (λ (r : RoundSaid). r.line_time) says

  empty_after : waiting_at (station_at exit s) ≡ []
  empty_after =
      sym (waiting_at_law exit s) ∙ ap (λ (r : List Station). get_or (waiting r) s []) p.leaves_it
      ∙ rw (round_waiting lent row t) (without_at s (winner_of row) (waiting row) ∙ rw (h, w, same_refl (bits_sent x)))

  shows : RoundCarries s x exit lent_exit a
  shows =
      let l = on_the_line lent row t in
      record {
        told = sym (said_number a) ∙ ap (λ (r : RoundSaid). r.number) says;
        through =
            ap (λ (r : RoundSaid). get_or r.verdicts s (verdict_of Idle)) says
            ∙ verdict_at_law row s ∙ ap verdict_of (((wins lent row t).through s).1 (sym (waiting_at_law row s) ∙ h ∙ sym w));
        readable = rw p.lends_it (round_reads lent row t x w b lo hi);
        time = rw (words, time_is, p.lends_it, words_first lent row t) l.time;
        bound = rw time_is l.bound;
        emptied = empty_after;
      }

-- ## Histories in which nothing is withdrawn, or nothing disturbs

-- Where no withdrawal from s is seen, no call of the history has withdrawn from s.
pub kept : (s : ℕ) (before later : List CallMade) (a : Called) → NoWithdrawalSeen s (before ++ (withdraws s a ∷ later)) → called_number a ≡ 0 → ⊥
kept s [] later a n t = never (rw (eq-eqb s s refl) (eq-eqb (called_number a) 0 t)) n.0
kept s (e ∷ before) later a n t = kept s before later a n.1 t

traffic_withdraws : (s : ℕ) (e : CallMade) → traffic_seen e ≡ false → withdrawal_seen s e ≡ false
traffic_withdraws s (loads i m a) u = refl
traffic_withdraws s (withdraws i a) u = rw (u, and-false (eqb s i))
traffic_withdraws s (sets_clock i c a) u = refl
traffic_withdraws s (plays entry exit a) u = refl

traffic_loads : (m : Bits) (e : CallMade) → traffic_seen e ≡ false → load_seen m e ≡ 0
traffic_loads m (loads i x a) u = rw u
traffic_loads m (withdraws i a) u = refl
traffic_loads m (sets_clock i c a) u = refl
traffic_loads m (plays entry exit a) u = refl

-- Without a loading or withdrawal nothing is withdrawn from s ..
pub quiet_kept : (s : ℕ) (events : List CallMade) → NoTrafficSeen events → NoWithdrawalSeen s events
quiet_kept s [] u = tt
quiet_kept s (e ∷ events) u = (traffic_withdraws s e u.0, quiet_kept s events u.1)

-- .. and L is 0 ..
pub quiet_loads : (x : List ℕ) (events : List CallMade) → NoTrafficSeen events → loads_seen x events ≡ 0
unfolding loads_seen
quiet_loads x [] u = refl
quiet_loads x (e ∷ events) u = omega (arith, traffic_loads (bits_sent x) e u.0, quiet_loads x events u.1)

-- .. and so it is up to any call.
pub quiet_before : (before later : List CallMade) → NoTrafficSeen (before ++ later) → NoTrafficSeen before
quiet_before [] later u = tt
quiet_before (e ∷ before) later u = (u.0, quiet_before before later u.1)

-- ## Demand 3

-- What becomes of it over any history of calls.
pub data Becomes (s : ℕ) (x : List ℕ) (start row : List Station) (events : List CallMade) (exit : List Station) : Type 0 where
  goes_out : GoesOutInTime s x start row events → Becomes s x start row events exit
  is_withdrawn : TakenBack s x row events → Becomes s x start row events exit
  still_waits : WaitsAt s (bits_sent x) exit → rounds_seen events ≤ ahead_in start x + loads_seen x events → Becomes s x start row events exit

module _ (s : ℕ) (x : List ℕ) (start : List Station) (b : Bytes x) {row : List Station} (loaded : LoadPromise s x start row (Ok tt)) where
  -- The loading was answered with Done, and so it was taken.
  pub loading_taken : taken (load s x) start ≡ true
  unfolding taken
  loading_taken = eq-eqb (number_of (load s x) start) 0 (sym loaded.answers_it)

  ok : LoadTaken s x start
  ok = load_taken s x start loading_taken

  here : WaitsAt s (bits_sent x) row
  here =
      rw (loaded.leaves_it, load_waiting start s x loading_taken)
      (get_or-set_same (waiting start) s (bits_sent x) [] (rw (waiting_length start) ok.there))

  -- A is the same counted before the loading and after it
  own : ahead_now (bits_sent x) row ≡ ahead_in start x
  own =
      rw (loaded.leaves_it, load_waiting start s x loading_taken)
      (own_count (bits_sent x) (waiting start) s (waiting_at_law start s ∙ empty_none (station_at start s) ok.free))

  in_time : (events : List CallMade) → GoesOut s x row events → GoesOutInTime s x start row events
  in_time events g =
      record {
        out = g;
        shown = shows s x b ok.some ok.few g.keeps g.played g.held g.wins;
        latest = omega (arith, own, g.latest);
        exactly = λ u. omega (arith, own, g.exactly u);
      }

  -- A loaded message goes out in time, or is withdrawn while it waits, or still waits and its time is not yet over.
  pub outcome : {events : List CallMade} {exit : List Station} → Happens row events exit → Becomes s x start row events exit
  outcome {events} {exit} h = go (fate s x h here)
    where
      go : Fate s x row events exit → Becomes s x start row events exit
      go (out g) = goes_out (in_time events g)
      go (withdrawn w) = is_withdrawn w
      go (waits f l) = still_waits f (omega (arith, own))

  -- WAITING ENDS. Whatever calls follow the loading, and whatever they answer, so long as each keeps its promise: once 1 + A + L
  -- of the rounds have been played, and no withdrawal from the place was accepted, the message has gone out, in time.
  pub waiting_ends : {events : List CallMade} {exit : List Station} → Happens row events exit → NoWithdrawalSeen s events
      → 1 + ahead_in start x + loads_seen x events ≤ rounds_seen events → GoesOutInTime s x start row events
  waiting_ends {events} {exit} h n l = go (outcome h)
    where
      go : Becomes s x start row events exit → GoesOutInTime s x start row events
      go (goes_out g) = g
      go (is_withdrawn w) = absurd (kept s w.before w.later w.answer (rw w.parts at n) w.accepted)
      go (still_waits f k) = absurd (omega arith)

  -- EXACTLY ROUND A + 1. Where no loading or withdrawal was accepted, it goes out in that round.
  pub exact_round : {events : List CallMade} {exit : List Station} → Happens row events exit → NoTrafficSeen events → ahead_in start x + 1 ≤ rounds_seen events
      → (g : GoesOutInTime s x start row events) × (rounds_seen g.out.before + 1 ≡ ahead_in start x + 1)
  exact_round {events} h u l =
      let g = waiting_ends h (quiet_kept s events u) (omega (arith, quiet_loads x events u)) in
      (g, g.exactly (quiet_before g.out.before (plays g.out.lent g.out.lent_exit g.out.answer ∷ g.out.later) (rw g.out.parts at u)))
