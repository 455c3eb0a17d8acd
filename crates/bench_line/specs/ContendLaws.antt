-- Laws.
-- Laws of contending: it is settled; a row of sound stations is taken as it is; and how the code comes to it.
use Rattle.std.specs.Prelude.{ℕ, zero, suc, ◌-◌, ◌≤◌, ◌<◌, min, ◌≡◌, refl, Bool, true, false, cond, not, List, [], ◌∷◌, ◌++◌, map, leb, length, take, replicate}
use Rattle.std.proofs.Common.{sym, ap, ap₂, ◌∙◌, arith, leb-true, le-ltb, lt-ltb}
use Rattle.std.proofs.lemmas.List.Edits.{sets}
use Rattle.laws.specs.Settled.{settled}
use Rattle.laws.specs.Tests.{both}
use Rattle.symbol.specs.Clocks.{good_of}
use Rattle.frame.specs.Writing.{most_words}
use Rattle.bench.specs.declared.Station.{Station}
use Rattle.bench.specs.declared.Fared.TheVariants.{Idle}
use Rattle.bench.specs.declared.Verdict.{Verdict}
use Rattle.bench.specs.Stations.{most_stations, most_stored, sound}
use Rattle.bench.specs.Course.{Seat, out, Course, asked, widths_of, lasts, on_line, heard, nobody_asks, most_bits, over, bit_then, play, fared_at}
use Rattle.bench.specs.Round.{entry_of, seat_of, verdict_of}
use Rattle.bench.specs.Calls.{all_sound}
use Rattle.bench_line.specs.declared.sender.Sender.{Sender}
use Rattle.bench_line.specs.declared.Contended.{Contended}
use Rattle.bench_line.specs.Lanes.{seats_at, fared_of, verdict_at}
use Rattle.bench_line.specs.Sending.{course_of, SendsBits}
use Rattle.bench_line.specs.Entries.{Holders, place_of}
use Rattle.bench_line.specs.EntryLaws.{idle_rest}
use Rattle.bench_line.specs.Stated.{clipped}
use Rattle.bench_line.specs.Contending.{course_on, course_lent, ContendedIn, ContendedBy, nobody_sent}

-- No second answer and no other words are what contending comes to.
pub contended_settled : (row : List Station) {lent left left' : List ℕ} {r s : Contended} → ContendedBy row lent left r → ContendedBy row lent left' s → (r ≡ s) × (left ≡ left')
contended_settled row p q = (
  ap₂ (λ (n : ℕ) (v : List Verdict). record { bits = n; verdicts = v }) (settled p.counts q.counts) (settled p.fares q.fares),
  settled p.leaves q.leaves,
)

-- ## A row of sound stations, with words enough

short_stored : (s : Station) → sound s ≡ true → s.len ≤ most_stored
short_stored s h = leb-true s.len most_stored (both (leb s.len most_stored) (good_of s.clock) h).0

-- it is taken as it is
sound_clipped : (row : List Station) → all_sound row ≡ true → map clipped row ≡ row
unfolding all_sound
sound_clipped [] h = refl
sound_clipped (s ∷ row) h =
    let b = both (sound s) (all_sound row) h in
    let e : min s.len most_stored ≡ s.len = omega (arith, short_stored s b.0) in
    ap₂ (λ (n : ℕ) (r : List Station). record { clock = s.clock; bytes = s.bytes; len = n } ∷ r) e (sound_clipped row b.1)

-- Then the bits that are sent are those of the round.
pub sound_sent : (row : List Station) (lent : List ℕ) → all_sound row ≡ true → most_words ≤ length lent → course_lent row lent ≡ course_on row
unfolding course_lent
sound_sent row lent h k = rw (le-ltb (length lent) most_words k, sound_clipped row h)

few : (n : ℕ) (active : Bool) (k : ℕ) (seats : List Seat) → length (play n active k seats).widths ≤ n
unfolding play
few zero active k seats = omega arith
few (suc n) active k seats =
    let w : ℕ = lasts active (widths_of (asked seats)) in
    let later : Course = play n (not active) (suc k) (map (heard k (on_line active w)) seats) in
    go w later (few n (not active) (suc k) (map (heard k (on_line active w)) seats)) (nobody_asks (asked seats))
  where
    go : (w : ℕ) (c : Course) → length c.widths ≤ n → (t : Bool) → length (cond t (over seats) (bit_then w c)).widths ≤ suc n
    go w c h true = omega arith
    go w c h false = omega arith

-- A round has at most 96 bits.
pub course_few : (row : List Station) → length (course_on row).widths ≤ most_bits
unfolding course_on
course_few row = few most_bits false 1 (map seat_of (map entry_of row))

-- ## Idle places at the end of a row

-- they ask for nothing
asked_idle : (seats : List Seat) (m : ℕ) → asked (seats ++ replicate m (out Idle)) ≡ asked seats
unfolding asked
asked_idle [] zero = refl
asked_idle [] (suc m) = asked_idle [] m
asked_idle (s ∷ seats) m = rw (asked_idle seats m)

-- they hear nothing
heard_idle : (k : ℕ) (b : Bool) (seats : List Seat) (m : ℕ)
    → map (heard k b) (seats ++ replicate m (out Idle)) ≡ map (heard k b) seats ++ replicate m (out Idle)
heard_idle k b [] zero = refl
heard_idle k b [] (suc m) = ap (λ (r : List Seat). out Idle ∷ r) (heard_idle k b [] m)
heard_idle k b (s ∷ seats) m = ap (λ (r : List Seat). heard k b s ∷ r) (heard_idle k b seats m)

-- and the course is the same but for them
with_idle : ℕ → Course → Course
with_idle m c = record { widths = c.widths; seats = c.seats ++ replicate m (out Idle) }

play_idle : (n : ℕ) (active : Bool) (k : ℕ) (seats : List Seat) (m : ℕ)
    → play n active k (seats ++ replicate m (out Idle)) ≡ with_idle m (play n active k seats)
unfolding play with_idle
play_idle zero active k seats m = refl
play_idle (suc n) active k seats m =
    let w : ℕ = lasts active (widths_of (asked seats)) in
    let then : List Seat = map (heard k (on_line active w)) seats in
    rw (asked_idle seats m, heard_idle k (on_line active w) seats m, play_idle n (not active) (suc k) then m)
    (go (nobody_asks (asked seats)) w (play n (not active) (suc k) then))
  where
    go : (t : Bool) (w : ℕ) (c : Course)
        → cond t (over (seats ++ replicate m (out Idle))) (bit_then w (with_idle m c)) ≡ with_idle m (cond t (over seats) (bit_then w c))
    go true w c = refl
    go false w c = refl

fares_idle : (seats : List Seat) (m : ℕ)
    → map verdict_of (map fared_at (seats ++ replicate m (out Idle))) ≡ map verdict_of (map fared_at seats) ++ replicate m (verdict_of Idle)
fares_idle [] zero = refl
fares_idle [] (suc m) = ap (λ (r : List Verdict). verdict_of Idle ∷ r) (fares_idle [] m)
fares_idle (s ∷ seats) m = ap (λ (r : List Verdict). verdict_of (fared_at s) ∷ r) (fares_idle seats m)

-- ## The code

-- Too few words: nobody sends.
pub nobody_sends : (row : List Station) (lent : List ℕ) → length lent < most_words → (r : Contended) → r ≡ nobody_sent → ContendedBy row lent lent r
unfolding course_lent nobody_sent
nobody_sends row lent h r e = rw (lt-ltb (length lent) most_words h, e) (record { counts = refl; fares = refl; leaves = refl })

-- Words enough: the bits of the round are sent.
pub all_send : (row : List Station) (lent left : List ℕ) → most_words ≤ length lent
    → (r : Contended) → ContendedIn (course_on (map clipped row)) lent left r → ContendedBy row lent left r
unfolding course_lent
all_send row lent left h r p = rw (le-ltb (length lent) most_words h) p

-- What is sent over the places of the stations up to the last holder are the bits of the round.
module _ (row : List Station) (n : length row ≡ most_stations) (places : ℕ) (s : Holders row places)
    (ls : List Sender) (begun : seats_at false 0 ls ≡ map place_of (take places row)) where
  same : course_on (map clipped row) ≡ with_idle (most_stations - places) (course_of ls)
  unfolding course_on with_idle
  same =
      ap (play most_bits false 1) (three row)
      ∙ ap (play most_bits false 1) (idle_rest row places (λ i lo hi. s.none i lo (omega arith)))
      ∙ ap (λ (k : ℕ). play most_bits false 1 (map place_of (take places row) ++ replicate (k - places) (out Idle))) n
      ∙ play_idle most_bits false 1 (map place_of (take places row)) (most_stations - places)
      ∙ ap (λ (x : List Seat). with_idle (most_stations - places) (play most_bits false 1 x)) (sym begun)
    where
      three : (l : List Station) → map seat_of (map entry_of (map clipped l)) ≡ map place_of l
      three [] = refl
      three (s ∷ l) = ap (λ (r : List Seat). place_of s ∷ r) (three l)

  pub contended : (ls' : List Sender) (lent left : List ℕ) (bits : ℕ) → SendsBits ls ls' lent left bits → (verdicts : List Verdict)
      → verdicts ≡ map verdict_at ls' ++ replicate (most_stations - places) (verdict_of Idle)
      → ContendedIn (course_on (map clipped row)) lent left (record { bits = bits; verdicts = verdicts })
  unfolding with_idle
  contended ls' lent left bits t verdicts v =
      record {
        counts = t.counts_them ∙ sym (ap (λ (x : Course). length x.widths) same);
        fares =
            v ∙ ap (λ (r : List Verdict). r ++ replicate (most_stations - places) (verdict_of Idle)) (two ls' ∙ ap (map verdict_of) t.fares_so)
            ∙ sym (fares_idle (course_of ls).seats (most_stations - places))
            ∙ sym (ap (λ (x : Course). map verdict_of (map fared_at x.seats)) same);
        leaves = t.writes_them ∙ sym (ap (λ (x : Course). sets lent 2 x.widths) same);
      }
    where
      two : (ls : List Sender) → map verdict_at ls ≡ map verdict_of (map fared_of ls)
      two [] = refl
      two (l ∷ ls) = ap (λ (r : List Verdict). verdict_at l ∷ r) (two ls)
