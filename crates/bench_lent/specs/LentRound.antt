-- Laws.
-- A round on a lent row keeps its promise: the row is gathered into a held row, the round is played on the held row, and the held row
-- is put back.
use Rattle.std.specs.Prelude.{ℕ, ◌+◌, ◌-◌, ◌≤◌, ◌≡◌, true, false, Result, Ok, Err, eqb, take}
use Rattle.std.proofs.Math.Path.{ap, ap₂}
use Rattle.std.proofs.Common.{sym, subst, ◌∙◌, arith, eq-eqb, length-append}
use mathlib.Core.List.{List, ◌++◌, map, append-nil}
use Rattle.std.proofs.Math.ListN.{length, replicate}
use Rattle.std.proofs.lemmas.List.{length-map, length-replicate}
use Rattle.std.proofs.Math.Seq.{take_at}
use Rattle.bench.specs.declared.Station.{Station}
use Rattle.bench.specs.declared.Fared.{Fared}
use Rattle.bench.specs.declared.Fared.TheVariants.{Idle}
use Rattle.bench.specs.declared.Verdict.{Verdict}
use Rattle.bench.specs.declared.RoundRefusal.{RoundRefusal}
use Rattle.bench.specs.Stations.{most_stations, blank}
use Rattle.bench.specs.Round.{Round, round_of, verdict_of, verdicts_of, after_fares}
use Rattle.bench.specs.Calls.{round, all_sound, number_of, taken, done, after, written, lent_after}
use Rattle.bench.specs.Promise.{told_number, RoundSaid, RoundPromise, played, round_says}
use Rattle.bench.specs.Taken.{round_taken}
use Rattle.bench.proofs.RowLaws.{fares_against, row_fares}
use Rattle.bench.specs.RoundStated.{winner_of}
use Rattle.bench_row.specs.declared.HeldRow.{HeldRow}
use Rattle.bench_round.specs.declared.Played.{Played}
use Rattle.bench_row.specs.HeldRows.{held_of}
use Rattle.bench_round.specs.Rounds.{round_number, number_on, Plays, PlayedBy, told_in}
use Rattle.bench_round.specs.PlayedSettled.{some_number}
use Rattle.bench_round.specs.Playing.{after_length}
use Rattle.bench_lent.specs.Padding.{map_append, map_replicate, round_pad, after_pad}
use Rattle.bench_lent.specs.Restoring.{padded, put_back, put_first}
use Rattle.bench_lent.specs.Lent.{same_number}

-- idle places past the row are what the verdicts are filled up with
verdicts_pad : (fares : List Fared) (k : ℕ) → length fares + k ≡ most_stations → verdicts_of (fares ++ replicate k Idle) ≡ verdicts_of fares
verdicts_pad fares k e =
    let z : most_stations - length (fares ++ replicate k Idle) ≡ 0 = omega (arith, length-append fares (replicate k Idle), length-replicate k Idle) in
    let w : k ≡ most_stations - length fares = omega arith in
    ap (λ (x : ℕ). map verdict_of (fares ++ replicate k Idle) ++ replicate x (verdict_of Idle)) z
    ∙ append-nil (map verdict_of (fares ++ replicate k Idle))
    ∙ map_append verdict_of fares (replicate k Idle)
    ∙ ap (λ (r : List Verdict). map verdict_of fares ++ r) (map_replicate verdict_of Idle k)
    ∙ ap (λ (x : ℕ). map verdict_of fares ++ replicate x (verdict_of Idle)) w

module _ (row : List Station) (lent : List ℕ) where
  rules : number_on (held_of row) lent ≡ number_of (round lent) row
  unfolding round_number held_of
  rules = same_number row (round lent)

  module _ (few : length row ≤ most_stations) (sound : all_sound row ≡ true) where
    left : ℕ
    left = most_stations - length row

    fares_length : length (round_of row).fares ≡ length row
    fares_length = ap length (row_fares row sound) ∙ length-map row (fares_against (winner_of row))

    round_same : round_of (held_of row).at ≡ record { words = (round_of row).words; fares = (round_of row).fares ++ replicate left Idle; line_time = (round_of row).line_time }
    unfolding left
    round_same = ap round_of (padded row few) ∙ round_pad (most_stations - length row) row

    played_same : played (round_of (held_of row).at) ≡ played (round_of row)
    unfolding left
    played_same =
        ap played round_same
        ∙ ap (λ (vs : List Verdict). let s : RoundSaid = record { number = 0; verdicts = vs; words = length (round_of row).words; line_time = (round_of row).line_time } in s)
        (verdicts_pad (round_of row).fares (most_stations - length row) (omega (arith, fares_length)))

    put_round : (b : HeldRow) → b.at ≡ after_fares (round_of (held_of row).at).fares (held_of row).at → put_back b row ≡ after_fares (round_of row).fares row
    unfolding left
    put_round b e =
        let so : b.at ≡ after_fares (round_of row).fares row ++ replicate (most_stations - length row) blank =
        e ∙ ap₂ (λ (r : Round) (l : List Station). after_fares r.fares l) round_same (padded row few) ∙ after_pad (most_stations - length row) (round_of row).fares row fares_length in
        put_first b row (after_fares (round_of row).fares row) few (after_length (round_of row).fares row)
        (ap (take (length row)) so ∙ take_at (after_fares (round_of row).fares row) (replicate (most_stations - length row) blank) (length row) (after_length (round_of row).fares row))

  -- the lent row after a round: one that is turned away stores nothing
  abbrev pub left_by_round : Result Played RoundRefusal → List Station
  left_by_round (Ok r) = put_back r.held row
  left_by_round (Err e) = row

  -- A round that is played on the held row of a lent one keeps the promise for the row, and so does one that is turned away.
  pub round_kept : (b : HeldRow) → b ≡ held_of row → (lent' : List ℕ) (r : Result Played RoundRefusal) → PlayedBy b lent lent' r → RoundPromise row (left_by_round r) lent lent' (told_in r)
  unfolding round_says after taken done lent_after
  round_kept b g lent' (Ok r) plays =
      let p = subst (λ (x : HeldRow). Plays x lent lent' r) g plays in
      let z : number_of (round lent) row ≡ 0 = sym rules ∙ p.passes in
      let k = (round_taken lent row (eq-eqb (number_of (round lent) row) 0 z)).passed in
      record {
        says_it = rw z (p.says ∙ played_same k.few k.sound);
        leaves_it = rw z (put_round k.few k.sound r.held (ap (λ (b : HeldRow). b.at) p.leaves));
        lends_it = rw z (p.lends ∙ ap (λ (x : Round). written x.words lent) (round_same k.few k.sound));
      }
  round_kept b g lent' (Err e) p =
      let q : told_number (Err e) ≡ number_of (round lent) row = p.0 ∙ ap (λ (x : HeldRow). number_on x lent) g ∙ rules in
      let z : eqb (number_of (round lent) row) 0 ≡ false = ap (λ (n : ℕ). eqb n 0) (sym q) ∙ some_number e in
      record { says_it = rw (z, ← q); leaves_it = rw z; lends_it = rw z p.1 }
