-- Machinery.
-- A round that passed its tests: what its words, its line time and its verdicts come to, and the stations after it.
use Rattle.std.specs.Prelude.{ℕ, zero, suc, ◌+◌, ◌-◌, ◌≤◌, ◌<◌, ◌^◌, ◌≡◌, refl, true, take, get_or, sum, replicate}
use Rattle.std.specs.List.{fold}
use Rattle.std.proofs.Common.{sym, ap₂, ◌∙◌, arith, length-append, length-take-le, get_or-take, drop-cons, take_at}
use Rattle.std.proofs.Math.Path.{ap, subst}
use mathlib.Core.List.{List, [], ◌∷◌, ◌++◌, map, append_assoc, append-nil}
use Rattle.std.proofs.Math.ListN.{length, drop, drop_of_length-le, set, length-set, get_or-map}
use Rattle.std.proofs.lemmas.List.{length-map}
use Rattle.std.proofs.lemmas.List.Edits.{sets}
use Rattle.std.proofs.Math.Seq.{length-sets}
use Rattle.laws.specs.Lent.{sets_then, sets_first}
use Rattle.symbol.specs.Sending.{end_width}
use Rattle.frame.specs.Writing.{most_words}
use Rattle.bench.specs.declared.Station.{Station}
use Rattle.bench.specs.declared.Fared.{Fared}
use Rattle.bench.specs.declared.Fared.TheVariants.{Idle}
use Rattle.bench.specs.declared.Verdict.{Verdict}
use Rattle.bench.specs.Stations.{most_stations, blank}
use Rattle.bench.specs.Course.{longest, Course, most_bits}
use Rattle.bench.specs.Round.{entry_of, sofs_asked, sum_of, round_of, round_among, verdict_of, verdicts_of, after_fare, after_fares}
use Rattle.bench.specs.Calls.{all_sound, written}
use Rattle.bench.proofs.RowLaws.{fares_against, row_fares, row_comes}
use Rattle.bench.specs.RoundStated.{winner_of}
use Rattle.bench.specs.Promise.{RoundSaid, played}
use Rattle.std.proofs.lemmas.List.{get_or_default, get_or-set_other, get_or-set_same, ext_get_or}
use Rattle.std.proofs.Common.{below_more}
use Rattle.bench_line.specs.declared.Contended.{Contended}
use Rattle.bench_line.specs.Contending.{course_on, ContendedIn, ContendedBy}
use Rattle.bench_line.specs.ContendLaws.{sound_sent, course_few}
use Rattle.bench_round.specs.Rounds.{fares_in, after_verdict, after_verdicts}

-- ## The words and the answer

-- the width of the opening and of the closing end
abbrev end : ℕ
end = end_width.0

-- Each of the 32 places fares somehow.
pub fares_length : (at : List Station) → length at ≡ most_stations → all_sound at ≡ true → length (round_of at).fares ≡ most_stations
fares_length at n h = ap length (row_fares at h) ∙ length-map at (fares_against (winner_of at)) ∙ n

module _ (at : List Station) (n : length at ≡ most_stations) (h : all_sound at ≡ true) (sof : ℕ) (q : sof ≡ longest (sofs_asked (map entry_of at)))
    (old : List ℕ) (space : most_words ≤ length old) (mid : List ℕ) (r : Contended)
    (did : ContendedBy at (set (set old 0 end) 1 sof) mid r) where
  course : Course
  course = course_on at

  -- what contending comes to on sound stations and words enough
  sent : ContendedIn course (set (set old 0 end) 1 sof) mid r
  unfolding course
  sent =
      let k : most_words ≤ length (set (set old 0 end) 1 sof) = omega (arith, space, length-set (set old 0 end) 1 sof, length-set old 0 end) in
      subst (λ (c : Course). ContendedIn c (set (set old 0 end) 1 sof) mid r) (sound_sent at (set (set old 0 end) 1 sof) h k) did

  -- There are at most 96 bits.
  pub few_bits : r.bits ≤ most_bits
  unfolding course
  few_bits = omega (arith, sent.counts, course_few at)

  -- the words before the closing end
  front : List ℕ
  front = end ∷ sof ∷ course.widths

  front_length : length front ≡ 2 + r.bits
  unfolding front course
  front_length = omega (arith, sent.counts)

  all_words : (round_of at).words ≡ front ++ (end ∷ [])
  unfolding round_of round_among front course course_on
  all_words = rw q

  whole : length (front ++ (end ∷ [])) ≡ 3 + r.bits
  whole = omega (arith, length-append front (end ∷ []), front_length)

  -- the closing end is the last word written
  closed : set mid (2 + r.bits) end ≡ (front ++ (end ∷ [])) ++ drop (3 + r.bits) old
  unfolding front
  closed =
      ap (λ (ws : List ℕ). set ws (2 + r.bits) end) sent.leaves
      ∙ ap (λ (ws : List ℕ). set ws (2 + r.bits) end) (sets_then old 0 (end ∷ sof ∷ []) course.widths)
      ∙ ap (λ (k : ℕ). set (sets old 0 front) k end) (let z : 2 + r.bits ≡ 0 + length front = omega (arith, front_length) in z)
      ∙ sets_then old 0 front (end ∷ [])
      ∙ sets_first old (front ++ (end ∷ [])) (omega (arith, whole, few_bits))
      ∙ ap (λ (k : ℕ). (front ++ (end ∷ [])) ++ drop k old) whole

  -- No word is added or lost.
  pub mid_length : length mid ≡ length old
  mid_length =
      ap length sent.leaves ∙ length-sets (set (set old 0 end) 1 sof) 2 course.widths
      ∙ length-set (set old 0 end) 1 sof ∙ length-set old 0 end

  -- With the closing end after them they are the round's words ..
  pub words_are : set mid (2 + r.bits) end ≡ written (round_of at).words old
  words_are = closed ∙ ap (λ (k : ℕ). (front ++ (end ∷ [])) ++ drop k old) (sym whole) ∙ ap (λ (ws : List ℕ). ws ++ drop (length ws) old) (sym all_words)

  -- .. and the sum of all but that end is its line time ..
  pub time_is : sum_of (take (2 + r.bits) (set mid (2 + r.bits) end)) ≡ (round_of at).line_time
  unfolding round_of round_among front course course_on
  time_is =
      ap (λ (ws : List ℕ). sum_of (take (2 + r.bits) ws)) (closed ∙ append_assoc front (end ∷ []) (drop (3 + r.bits) old))
      ∙ ap sum_of (take_at front (end ∷ drop (3 + r.bits) old) (2 + r.bits) front_length)
      ∙ ap (λ (s : ℕ). sum_of (end ∷ s ∷ course.widths)) q

  -- .. which a u32 holds.
  pub time_bound : sum_of (take (2 + r.bits) (set mid (2 + r.bits) end)) ≤ 14438
  time_bound = omega (arith, time_is, (row_comes at h).bound)

  fares_are : r.verdicts ≡ map verdict_of (round_of at).fares
  unfolding round_of round_among course course_on
  fares_are = sent.fares

  verdicts_are : r.verdicts ≡ verdicts_of (round_of at).fares
  verdicts_are =
      let z : most_stations - length (round_of at).fares ≡ 0 = omega (arith, fares_length at n h) in
      fares_are ∙ sym (append-nil (map verdict_of (round_of at).fares))
      ∙ ap (λ (k : ℕ). map verdict_of (round_of at).fares ++ replicate k (verdict_of Idle)) (sym z)

  -- The answer is the definition's.
  pub answer_is : (time : ℕ) → time ≡ sum_of (take (2 + r.bits) (set mid (2 + r.bits) end))
      → (let x : RoundSaid = record { number = 0; verdicts = r.verdicts; words = 2 + r.bits + 1; line_time = time } in x) ≡ played (round_of at)
  answer_is time f =
      let k : 2 + r.bits + 1 ≡ length (round_of at).words = omega (arith, ap length all_words, whole) in
      rw (verdicts_are, k, f ∙ time_is)

-- ## The sum of words

sum_from : (n : ℕ) (ws : List ℕ) → fold (λ (x y : ℕ). x + y) n ws ≡ n + sum_of ws
unfolding sum_of
sum_from n [] = omega arith
sum_from n (w ∷ ws) = omega (arith, sum_from (n + w) ws)

-- All widths together are the library's sum of them.
pub sum_same : (ws : List ℕ) → sum ws ≡ sum_of ws
sum_same ws = omega (arith, sum_from 0 ws)

-- A line time fits.
pub time_fits : (ws : List ℕ) → sum_of ws ≤ 14438 → sum ws < 2 ^ 32
time_fits ws h = omega (arith, sum_same ws)

-- A part of a sum is no more than the sum.
pub sum_part : (ws : List ℕ) (i : ℕ) → sum_of (drop i ws) ≤ sum_of ws
unfolding sum_of
sum_part ws zero = omega arith
sum_part [] (suc i) = omega arith
sum_part (w ∷ ws) (suc i) = omega (arith, sum_part ws i)

-- The first n words, summed from the last of them on.
module _ (ws : List ℕ) (n : ℕ) (h : n ≤ length ws) where
  -- nothing is summed yet
  pub sum_start : 0 ≡ sum_of (drop n (take n ws))
  unfolding sum_of
  sum_start = ap sum_of (sym (drop_of_length-le (take n ws) {i = n} (omega (arith, length-take-le n ws h))))

  module _ (i v : ℕ) (hi : i ≤ n) (e : v ≡ sum_of (drop i (take n ws))) where
    -- one word more
    pub sum_more : 0 < i → v + get_or ws (i - 1) 0 ≡ sum_of (drop (i - 1) (take n ws))
    unfolding sum_of
    sum_more lo =
        let p : i ≡ suc (i - 1) = omega arith in
        let one : sum_of (drop (i - 1) (take n ws)) ≡ get_or (take n ws) (i - 1) 0 + sum_of (drop (suc (i - 1)) (take n ws)) =
        ap sum_of (drop-cons (take n ws) (i - 1) 0 (omega (arith, length-take-le n ws h))) in
        omega (arith, e, one, ap (λ (k : ℕ). sum_of (drop k (take n ws))) p, get_or-take n ws (i - 1) 0 (omega arith))

    -- what is summed so far is no more than the whole
    pub sum_fits : 0 < i → v + get_or ws (i - 1) 0 ≤ sum_of (take n ws)
    sum_fits lo = omega (arith, sum_more lo, sum_part (take n ws) (i - 1))

    -- all words are summed
    pub sum_all : i ≤ 0 → v ≡ sum_of (take n ws)
    sum_all z = let p : i ≡ 0 = omega arith in e ∙ ap (λ (k : ℕ). sum_of (drop k (take n ws))) p

-- ## The stations afterwards

-- As many stations as there were.
pub after_length : (fares : List Fared) (row : List Station) → length (after_fares fares row) ≡ length row
unfolding after_fares
after_length [] row = refl
after_length (f ∷ fares) [] = refl
after_length (f ∷ fares) (s ∷ row) = ap suc (after_length fares row)

fares_at : (fares : List Fared) (row : List Station) (k : ℕ) → length fares ≡ length row → k < length row
    → after_fare (get_or fares k Idle) (get_or row k blank) ≡ get_or (after_fares fares row) k blank
unfolding after_fares
fares_at [] row k e h = absurd (omega arith)
fares_at (f ∷ fares) [] k e h = absurd (omega arith)
fares_at (f ∷ fares) (s ∷ row) zero e h = refl
fares_at (f ∷ fares) (s ∷ row) (suc k) e h = fares_at fares row k (omega arith) (omega arith)

told_again : (fares : List Fared) → fares_in (map verdict_of fares) ≡ fares
told_again [] = refl
told_again (f ∷ fares) = ap (λ (fs : List Fared). f ∷ fs) (told_again fares)

-- The stations by their verdicts are the stations by how they fared.
pub after_is : (at : List Station) (fares : List Fared) → length fares ≡ most_stations → after_verdicts at (verdicts_of fares) ≡ after_fares fares at
unfolding after_verdicts
after_is at fares n =
    let z : most_stations - length fares ≡ 0 = omega arith in
    ap (λ (k : ℕ). after_fares (fares_in (map verdict_of fares ++ replicate k (verdict_of Idle))) at) z
    ∙ ap (λ (vs : List Verdict). after_fares (fares_in vs) at) (append-nil (map verdict_of fares))
    ∙ ap (λ (fs : List Fared). after_fares fs at) (told_again fares)

-- the stations while they are seen to, at place i
pub record Settling (at : List Station) (verdicts : List Verdict) (now : List Station) (i : ℕ) : Type 0 where
  pub places : length at ≡ most_stations
  pub answers : length verdicts ≡ most_stations
  pub whole : length now ≡ most_stations
  pub done : (k : ℕ) → k < i → get_or now k blank ≡ after_verdict at verdicts k
  pub ahead : (k : ℕ) → i ≤ k → get_or now k blank ≡ get_or at k blank

-- none yet
pub settle_start : (at : List Station) (verdicts : List Verdict) → length at ≡ most_stations → length verdicts ≡ most_stations → Settling at verdicts at 0
settle_start at verdicts n m = record { places = n; answers = m; whole = n; done = λ k h. absurd (omega arith); ahead = λ k h. refl }

module _ {at : List Station} {verdicts : List Verdict} {now : List Station} {i : ℕ} (so : Settling at verdicts now i) where
  -- one station more
  pub settle_more : i < most_stations → (d : Station) (e : Verdict) (x : Station) → x ≡ after_fare (get_or verdicts i e).fared (get_or now i d) → Settling at verdicts (set now i x) (i + 1)
  settle_more h d e x p =
      let own : get_or now i d ≡ get_or at i blank = get_or_default now i d blank (omega (arith, so.whole)) ∙ so.ahead i (omega arith) in
      let is : x ≡ after_verdict at verdicts i =
      p ∙ ap₂ (λ (v : Verdict) (s : Station). after_fare v.fared s) (get_or_default verdicts i e (verdict_of Idle) (omega (arith, so.answers))) own in
      record {
        places = so.places;
        answers = so.answers;
        whole = length-set now i x ∙ so.whole;
        done = below_more _ _
            (λ k l. get_or-set_other now i k x blank (λ z. omega arith) ∙ so.done k l)
            (get_or-set_same now i x blank (omega (arith, so.whole)) ∙ is);
        ahead = λ k l. get_or-set_other now i k x blank (λ z. omega arith) ∙ so.ahead k (omega arith);
      }

  -- all of them
  pub settle_all : most_stations ≤ i → now ≡ after_verdicts at verdicts
  unfolding after_verdicts
  settle_all h =
      ext_get_or blank now (after_fares (fares_in verdicts) at) (so.whole ∙ sym so.places ∙ sym (after_length (fares_in verdicts) at))
      (λ k l.
      so.done k (omega (arith, so.whole))
      ∙ ap (λ (f : Fared). after_fare f (get_or at k blank)) (sym (get_or-map (λ (v : Verdict). v.fared) verdicts k (verdict_of Idle)))
      ∙ fares_at (fares_in verdicts) at k (length-map verdicts (λ (v : Verdict). v.fared) ∙ so.answers ∙ sym so.places) (omega (arith, so.whole, so.places)))
