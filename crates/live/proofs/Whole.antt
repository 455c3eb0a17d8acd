-- Laws.
-- Live reading is reading: the answers to the intervals of a recording, one after the other and however they are cut into
-- deliveries, with the bytes of their frames, and then the answer when asked, are those of reading the whole recording on
-- from its start.
use Rattle.std.specs.Prelude.{ℕ, ◌+◌, ◌≤◌, ◌≡◌, refl, false, List, [], ◌∷◌, ◌++◌, map, length, drop}
use Rattle.std.proofs.Common.{sym, ap, ◌∙◌, append-nil, append_assoc, arith, length-append, take_at}
use Rattle.std.proofs.lemmas.List.{length-map}
use Rattle.laws.specs.Tests.{never}
use Rattle.frame.specs.Line.{single}
use Rattle.frame.specs.Faults.{most_bytes}
use Rattle.frame.specs.Reading.{Outcome, good, quiet, unfinished, faulty, refused, reading}
use Rattle.frame.specs.ReadPromise.{Told, tells, lent_after}
use Rattle.frame.specs.ReadStated.{goes_on}
use Rattle.frame.specs.ReadingOn.{last, reads_once, reads_through}
use Rattle.frame.proofs.RecordingOn.{ReadsOn}
use Rattle.live_held.specs.declared.Live.{Live}
use Rattle.live.specs.Feeding.{started, fed_of, lent_of, asked_of}
use Rattle.live_held.specs.Held.{last_place}
use Rattle.live.specs.Promise.{asked_told}
use Rattle.live.specs.Hearing.{Hears, Takes, decides_nothing, decides_one}
use Rattle.live.proofs.Heard.{starts, takes_it}
use Rattle.live.specs.Asking.{asks}
use Rattle.live.specs.Shown.{Delivered, recording, Enough, none, also, Shown, after_one, after_all, shown, shows_one, shows_all, reads, shows_asked, joined, shows_in, after_in, Next}

-- ## Intervals one after the other

-- The bytes that an answer tells of are those that stand first in the lent bytes after it.
stands_first : (x : Outcome) (entry : List ℕ) → shown (lent_after x entry) (tells x) ≡ reads x
stands_first (good f) entry =
    ap (λ (l : List ℕ). record { told = tells (good f); bytes = l })
    (take_at (f.main ++ f.response) (drop (length (f.main ++ f.response)) entry) (length f.main + length f.response) (length-append f.main f.response))
stands_first (quiet k) entry = refl
stands_first (unfinished o) entry = refl
stands_first (faulty n k) entry = refl
stands_first (refused n) entry = refl

-- what a reader shows over some intervals, by what it then knows
pub record ShowsOver (ws : List ℕ) (xs : List Outcome) (after : Live) (shows : List Shown) : Type 0 where
  pub new : List Outcome
  pub knows : Hears (single ws) (xs ++ new) after
  pub says : shows ≡ map reads new

-- Over any intervals a reader that has heard others goes on knowing what reading says of all of them.
pub hears_all : (is : List Delivered) → Enough is → (done : List ℕ) (xs : List Outcome) (v : Live) → Hears (single done) xs v → length done + length is ≤ last_place + 1
    → ShowsOver (done ++ recording is) xs (after_all v is) (shows_all v is)
hears_all [] none done xs v h fits =
    record { new = []; knows = rw (append-nil done, append-nil xs) h; says = refl }
hears_all (i ∷ is) (also few rest) done xs v h fits =
    go (takes_it done xs v h i.width (omega arith) i.lent few)
    (λ ys k. hears_all is rest (done ++ (i.width ∷ [])) ys (after_one v i) k left)
  where
    assoc : (done ++ (i.width ∷ [])) ++ recording is ≡ done ++ (i.width ∷ recording is)
    assoc = append_assoc done (i.width ∷ []) (recording is)

    left : length (done ++ (i.width ∷ [])) + length is ≤ last_place + 1
    left = omega (arith, length-append done (i.width ∷ []))

    go : Takes (single done) (single (done ++ (i.width ∷ []))) xs i.lent (lent_of v i.width i.lent) (fed_of v i.width (length i.lent))
        → ((ys : List Outcome) → Hears (single (done ++ (i.width ∷ []))) ys (after_one v i)
        → ShowsOver ((done ++ (i.width ∷ [])) ++ recording is) ys (after_all (after_one v i) is) (shows_all (after_one v i) is))
        → ShowsOver (done ++ (i.width ∷ recording is)) xs (after_all (after_one v i) is) (shows_one v i ++ shows_all (after_one v i) is)
    go (decides_nothing t e k) on =
        let r = on xs k in
        record { new = r.new; knows = rw (← assoc) r.knows; says = rw t r.says }
    go (decides_one x g n t e k) on =
        let r = on (xs ++ (x ∷ [])) k in
        record {
          new = x ∷ r.new;
          knows = rw (← assoc, ← (append_assoc xs (x ∷ []) r.new)) r.knows;
          says = rw (t, e, stands_first x i.lent, r.says);
        }

-- ## Reading the whole recording

map_last : (xs : List Outcome) (x : Outcome) → map reads (xs ++ (x ∷ [])) ≡ map reads xs ++ (reads x ∷ [])
map_last [] x = refl
map_last (y ∷ xs) x = ap (λ (l : List Shown). reads y ∷ l) (map_last xs x)

-- no frame and no fault has bytes
shows_end : (x : Outcome) (t : Told) → t ≡ tells x → goes_on x ≡ false → ◌≡◌ {A = Shown} (record { told = t; bytes = [] }) (reads x)
shows_end (good f) t e g = never refl g
shows_end (quiet k) t e g = rw e
shows_end (unfinished o) t e g = rw e
shows_end (faulty n k) t e g = never refl g
shows_end (refused n) t e g = rw e

-- What a started reader shows at the intervals of a recording, and then when asked, is what reading on from 0 shows: the same
-- frames and faults with the same places and bytes, in the same order, then quiet or unfinished.
pub live_whole : (is : List Delivered) → Enough is → length is ≤ last_place + 1 → (zs : List Outcome) → ReadsOn (recording is) most_bytes 0 zs
    → shows_all started is ++ (shows_asked (after_all started is) ∷ []) ≡ map reads zs
live_whole is enough fits zs r =
    let t : ShowsOver (recording is) [] (after_all started is) (shows_all started is) = hears_all is enough [] [] started starts (omega (arith, fits)) in
    let rest : Outcome = reading (recording is) (after_all started is).places.from most_bytes in
    let a = asks (single (recording is)) t.new (after_all started is) t.knows in
    let whole : ReadsOn (recording is) most_bytes 0 (t.new ++ (rest ∷ [])) = reads_through t.knows.reached (last a.1) in
    ap (λ (l : List Shown). l ++ (shows_asked (after_all started is) ∷ [])) t.says
    ∙ ap (λ (y : Shown). map reads t.new ++ (y ∷ [])) (shows_end rest (asked_told (asked_of (after_all started is))) a.0 a.1)
    ∙ sym (map_last t.new rest) ∙ ap (map reads) (reads_once whole r)

-- ## Deliveries

shows_append : (v : Live) (a b : List Delivered) → shows_all v (a ++ b) ≡ shows_all v a ++ shows_all (after_all v a) b
shows_append v [] b = refl
shows_append v (i ∷ a) b =
    ap (λ (l : List Shown). shows_one v i ++ l) (shows_append (after_one v i) a b)
    ∙ sym (append_assoc (shows_one v i) (shows_all (after_one v i) a) (shows_all (after_all (after_one v i) a) b))

-- However the intervals are cut into deliveries, they show the same.
pub deliveries : (v : Live) (ds : List (List Delivered)) → shows_in v ds ≡ shows_all v (joined ds)
deliveries v [] = refl
deliveries v (d ∷ ds) =
    ap (λ (l : List Shown). shows_all v d ++ l) (deliveries (after_all v d) ds) ∙ sym (shows_append v d (joined ds))

after_append : (v : Live) (a b : List Delivered) → after_all v (a ++ b) ≡ after_all (after_all v a) b
after_append v [] b = refl
after_append v (i ∷ a) b = after_append (after_one v i) a b

after_deliveries : (v : Live) (ds : List (List Delivered)) → after_in v ds ≡ after_all v (joined ds)
after_deliveries v [] = refl
after_deliveries v (d ∷ ds) = after_deliveries (after_all v d) ds ∙ sym (after_append v d (joined ds))

-- Deliveries show what reading all their intervals as one recording shows.
pub delivered_whole : (ds : List (List Delivered)) → Enough (joined ds) → length (joined ds) ≤ last_place + 1 → (zs : List Outcome) → ReadsOn (recording (joined ds)) most_bytes 0 zs
    → shows_in started ds ++ (shows_asked (after_in started ds) ∷ []) ≡ map reads zs
delivered_whole ds enough fits zs r = rw (deliveries started ds, after_deliveries started ds) (live_whole (joined ds) enough fits zs r)

-- ## The interval that decides

-- "An answer at the interval that decides it": a frame or a fault is told at its own place, and is the next that reading tells
-- of the recording with that interval.
pub told_at : (is : List Delivered) → Enough is → length is ≤ last_place → (i : Delivered) → most_bytes ≤ length i.lent → Next is i
told_at is enough fits i few =
    let t : ShowsOver (recording is) [] (after_all started is) (shows_all started is) = hears_all is enough [] [] started starts (omega (arith, fits)) in
    record {
      told_before = t.new;
      reached = t.knows.reached;
      takes = takes_it (recording is) t.new (after_all started is) t.knows i.width (rw (length-map is (λ (c : Delivered). c.width)) fits) i.lent few;
    }
