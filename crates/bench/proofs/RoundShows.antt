-- Laws.
-- What a round that is played shows its caller: whatever answer, row and words keep the promise of a round, the verdicts name the
-- winner's holders and each loser's bit, the words are a frame, and no station changes but those that got through.
use Rattle.std.specs.Prelude.{ℕ, zero, suc, ◌≡◌, refl, true, List, [], ◌∷◌, length, take, get_or}
use Rattle.std.proofs.Math.Path.{sym}
use Rattle.std.proofs.Common.{ap, ◌∙◌}
use borrow.Author.Tests.{eq-eqb}
use Rattle.bench.specs.declared.Station.{Station}
use Rattle.bench.specs.declared.Fared.{Fared}
use Rattle.bench.specs.declared.Fared.TheVariants.{Idle, Through, Lost}
use Rattle.bench.specs.declared.Verdict.{Verdict}
use Rattle.bench.specs.Stations.{blank}
use Rattle.bench.specs.Round.{round_of, verdict_of, after_fare, after_fares}
use Rattle.bench.specs.Calls.{round, number_of, taken, done, after}
use Rattle.bench.specs.Promise.{RoundTold, told_number, RoundSaid, said, played, round_says, RoundPromise}
use Rattle.bench.specs.RoundStated.{station_at, fare_at, told_fare, RoundShown}
use Rattle.bench.proofs.Winner.{wins, loses, verdict_at_law, verdicts_32}
use Rattle.bench.proofs.LineTime.{on_the_line, words_first}
use Rattle.bench.specs.RowShows.{same_length}
use Rattle.bench.specs.RoundExactlyWhen.{says_number, said_number}

none_fares : (f : Fared) → blank ≡ after_fare f blank
none_fares Idle = refl
none_fares Through = refl
none_fares (Lost k) = refl

fares_at_law : (fs : List Fared) (row : List Station) (i : ℕ) → station_at (after_fares fs row) i ≡ after_fare (get_or fs i Idle) (station_at row i)
unfolding after_fares
fares_at_law [] row i = refl
fares_at_law (f ∷ fs) [] zero = none_fares f
fares_at_law (f ∷ fs) [] (suc i) = none_fares (get_or fs i Idle)
fares_at_law (f ∷ fs) (s ∷ row) zero = refl
fares_at_law (f ∷ fs) (s ∷ row) (suc i) = fares_at_law fs row i

-- THE ROUND, AS IT IS SEEN.
pub round_shows : {entry exit : List Station} {lent lent_exit : List ℕ} {a : RoundTold} → RoundPromise entry exit lent lent_exit a
    → told_number a ≡ 0 → RoundShown entry exit lent_exit a
unfolding round_says after done
round_shows {entry} {exit} {lent} {lent_exit} {a} p z =
    let l = on_the_line lent entry t in
    record {
      wins = wins lent entry t;
      places = ap (λ (r : RoundSaid). length r.verdicts) says ∙ verdicts_32 lent entry t;
      through = λ i. rw (fare i) ((wins lent entry t).through i);
      idle = λ i. rw (fare i) ((wins lent entry t).idle i);
      lost = λ i k. rw (fare i) (loses lent entry t i k);
      stations = λ i. rw (fare i, row) (fares_at_law (round_of entry).fares entry i);
      size = ap length p.leaves_it ∙ same_length (round lent) entry;
      sof = l.sof;
      widths = l.widths;
      words = written ∙ l.words;
      sof_window = l.sof_window;
      line = l.line;
      number = count ∙ l.number;
      few = rw count l.few;
      time = rw (written, time) l.time;
      bound = rw time l.bound;
    }
  where
    t : taken (round lent) entry ≡ true
    t =
        unfold taken in eq-eqb (number_of (round lent) entry) 0 (sym (says_number entry lent) ∙ sym (ap (λ (r : RoundSaid). r.number) p.says_it) ∙ said_number a ∙ z)

    row : exit ≡ after_fares (round_of entry).fares entry
    row = p.leaves_it ∙ rw t

    says : said a ≡ played (round_of entry)
    says = p.says_it ∙ rw t

    fare : (i : ℕ) → told_fare a i ≡ fare_at entry i
    fare i = ap (λ (r : RoundSaid). (get_or r.verdicts i (verdict_of Idle)).fared) says ∙ ap (λ (v : Verdict). v.fared) (verdict_at_law entry i)

    count : (said a).words ≡ length (round_of entry).words
    count = ap (λ (r : RoundSaid). r.words) says

    time : (said a).line_time ≡ (round_of entry).line_time
    time = ap (λ (r : RoundSaid). r.line_time) says

    written : take (said a).words lent_exit ≡ (round_of entry).words
    written = rw (count, p.lends_it) (words_first lent entry t)
