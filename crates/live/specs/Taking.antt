-- Laws.
-- One interval more, which is not refused: what a reader knows goes on.
use Rattle.std.specs.Prelude.{ℕ, ◌+◌, ◌-◌, ◌≤◌, ◌<◌, ◌≡◌, Bool, true, cond, List, [], ◌∷◌, ◌++◌, length, set}
use Rattle.std.proofs.Math.Path.{refl, subst}
use Rattle.std.proofs.Common.{sym, ap, ◌∙◌, arith}
use Rattle.std.proofs.Math.Bool.{false}
use Rattle.frame.specs.declared.Fault.{Fault}
use Rattle.frame.specs.Line.{Line, end_at, Found, nowhere, at, first_in, opening}
use Rattle.frame.specs.Standing.{Standing, stands}
use Rattle.frame.specs.Faults.{most_bytes}
use Rattle.frame.specs.Reading.{Outcome, good, closed, faulty, decides, decided_by, read_on}
use Rattle.frame.specs.ReadPromise.{fault_number}
use Rattle.frame.specs.FirstLaws.{or_at, first_next, first_empty, opening_is}
use Rattle.frame.specs.ReadStated.{Opens, goes_on}
use Rattle.frame.proofs.Outcomes.{opening_opens, opened_reading}
use Rattle.frame.specs.ReadingOn.{next_of, none_yet, one_more}
use Rattle.frame.proofs.RecordingOn.{progress}
use Rattle.frame.proofs.Longer.{first_same, end_same, stands_same, decides_same, reading_stays}
use Rattle.frame_machine.specs.declared.Machine.{Machine}
use Rattle.frame_machine.specs.declared.Event.{Event}
use Rattle.frame_machine.specs.declared.Event.TheVariants.{Going, Byte, Closed, Faulty}
use Rattle.frame_machine.specs.Steps.{step_of}
use Rattle.frame_machine.specs.Holding.{so_far, holding}
use Rattle.frame_machine.specs.HoldingLaws.{count_of}
use Rattle.frame_parts.specs.PartLaws.{parts_held}
use Rattle.frame_machine.specs.Meaning.{meaning_of}
use Rattle.frame_machine.proofs.StepDoes.{some_fault}
use Rattle.frame_machine.proofs.Following.{held_few, held_began}
use Rattle.frame_machine.proofs.Keeping.{SaysKept, kept_by}
use Rattle.frame_machine.specs.Stated.{Kept, Keeping}
use Rattle.live_held.specs.declared.Live.{Live}
use Rattle.live_held.specs.Reader.{held_by, begins_anew, goes_on as goes_on_with}
use Rattle.live_answer.specs.Answered.{still_open, closed_frame, fault_heard}
use Rattle.live_taken.specs.TakenLaws.{laid_closed}
use Rattle.live_taken.specs.Taken.{fed_by, sign_at, step_at, ends_at, laid_by}
use Rattle.live_held.specs.Held.{last_place, inside_of, after}
use Rattle.live_held.specs.HeldLaws.{held_inside}
use Rattle.live.specs.Hearing.{ToldSoFar, Counts, hears, Hears, Takes, decides_nothing, decides_one}
use Rattle.live.specs.Opening.{counts_on, begins_hears}

-- the position from which reading goes on lies in the recording
pub reached_in : (l : Line) {p : ℕ} {xs : List Outcome} → ToldSoFar l p xs → p ≤ l.count
reached_in l none_yet = omega arith
reached_in l (one_more {s = p} r g) = omega (arith, (progress most_bytes l p most_bytes g).1)

-- A line l and the line l' that one interval more makes of it.
module _ (l l' : Line) (long : l'.count ≡ l.count + 1) (same : (j : ℕ) → j < l.count → l.shows j ≡ l'.shows j) where
  -- The frames and faults told so far stay.
  pub reached_on : {p : ℕ} {xs : List Outcome} → ToldSoFar l p xs → ToldSoFar l' p xs
  reached_on none_yet = none_yet
  reached_on (one_more {s = p} {xs} r g) =
      let e : read_on most_bytes l' p most_bytes ≡ read_on most_bytes l p most_bytes = reading_stays most_bytes l l' (omega (arith, long)) same p most_bytes g in
      subst (λ (x : Outcome). ToldSoFar l' (next_of x) (xs ++ (x ∷ []))) e (one_more (reached_on r) (rw e g))

  -- What was no opening before the interval is none now.
  pub none_still : (from : ℕ) → opening l from ≡ nowhere → first_in (end_at l') from l.count ≡ nowhere
  none_still from e =
      sym (first_same (end_at l) (end_at l') from (l.count - from) (λ j a b. end_same l l' l.count same j (omega arith))) ∙ sym (opening_is l from) ∙ e

-- A reader that is hearing a frame, which opens at `o`, as the next interval comes.
module _ (l l' : Line) (long : l'.count ≡ l.count + 1) (same : (j : ℕ) → j < l.count → l.shows j ≡ l'.shows j)
    (v : Live) (xs : List Outcome) (was : ToldSoFar l v.places.from xs) (at-k : v.places.next ≡ l.count)
    (fits : l.count ≤ last_place) (m : Machine) (kept : List ℕ) (is : v.inside ≡ inside_of m kept)
    (opens : opening l v.places.from ≡ at v.places.opening)
    (none : first_in (decides most_bytes l v.places.opening) (v.places.opening + 1) l.count ≡ nowhere)
    (stood : Keeping most_bytes l v.places.opening l.count m kept) where
  -- where the frame opens
  abbrev o : ℕ
  o = v.places.opening

  -- the place of the interval
  abbrev k : ℕ
  k = l.count

  before : Keeping most_bytes l' o k m kept
  before =
      let st : stands l o k ≡ stands l' o k = stands_same l l' k same o k stood.follows.opened (omega arith) in
      record {
        follows = record {
          opened = stood.follows.opened;
          few = subst (λ (x : Standing). length (so_far x) ≤ most_bytes) st stood.follows.few;
          holds = stood.follows.holds ∙ ap holding st;
        };
        keeps = subst (λ (x : Standing). Kept most_bytes x kept) st stood.keeps;
      }

  none_before : first_in (decides most_bytes l' o) (o + 1) k ≡ nowhere
  none_before =
      sym (first_same (decides most_bytes l o) (decides most_bytes l' o) (o + 1) (k - (o + 1)) (λ j a b. decides_same l l' k same most_bytes o j (omega arith) (omega arith))) ∙ none

  -- with the interval, the first that decides is the interval itself or none
  found_next : (b : Bool) → decides most_bytes l' o k ≡ b → first_in (decides most_bytes l' o) (o + 1) l'.count ≡ cond b (at k) nowhere
  found_next b d =
      ap (first_in (decides most_bytes l' o) (o + 1)) long
      ∙ first_next (decides most_bytes l' o) (o + 1) k (omega (arith, before.follows.opened))
      ∙ ap (λ (f : Found). or_at f (decides most_bytes l' o k) k) none_before ∙ ap (λ (x : Bool). cond x (at k) nowhere) d

  opens_on : opening l' v.places.from ≡ at o
  opens_on =
      let e : first_in (end_at l') v.places.from k ≡ at o = sym (first_same (end_at l) (end_at l') v.places.from (k - v.places.from) (λ j a b. end_same l l' k same j (omega arith))) ∙ sym (opening_is l v.places.from) ∙ opens in
      opening_is l' v.places.from ∙ rw (long, first_next (end_at l') v.places.from k (reached_in l was), e)

  kept_is : v.inside.kept ≡ kept
  unfolding inside_of
  kept_is = rw is

  held_is : held_by v.inside ≡ m
  held_is =
      ap held_by is ∙ held_inside m kept (held_few most_bytes l' o k m before.follows) (held_began most_bytes l' o k m before.follows)

  -- Where the interval decides, the whole recording is read so.
  reads : decides most_bytes l' o k ≡ true → read_on most_bytes l' v.places.from most_bytes ≡ decided_by (at k) most_bytes l' o
  reads d =
      let op : Opens l' v.places.from o = opening_opens most_bytes l' v.places.from most_bytes o opens_on (omega (arith, before.follows.opened, long)) in
      let found : first_in (decides most_bytes l' o) (o + 1) l'.count ≡ at k = found_next true d in
      opened_reading most_bytes l' v.places.from most_bytes o (omega arith) op ∙ ap (λ (x : Found). decided_by x most_bytes l' o) found

  -- The frame goes on.
  pub goes : (m' : Machine) (kept' : List ℕ) → decides most_bytes l' o k ≡ false → Keeping most_bytes l' o (k + 1) m' kept' → Hears l' xs (goes_on_with v m' kept')
  unfolding goes_on_with after
  goes m' kept' d b =
      record {
        reached = reached_on l l' long same was;
        counts = subst (λ (n : ℕ). Counts n (goes_on_with v m' kept').places) (sym (long)) (counts_on k v.places v.places.from o at-k fits);
        rest = hears m' kept' refl opens_on
            (found_next false d)
            (subst (λ (n : ℕ). Keeping most_bytes l' o n m' kept') (sym (long)) b);
      }

  -- The frame ends with the interval: what is decided is told, and the next frame may open.
  ends_with : (x : Outcome) → goes_on x ≡ true → next_of x ≡ k → read_on most_bytes l' v.places.from most_bytes ≡ x → (b : Bool) → end_at l' k ≡ b
      → Hears l' (xs ++ (x ∷ [])) (begins_anew v v.places.next b)
  ends_with x g n r b e =
      begins_hears l' k (long) v at-k (rw kept_is before.keeps.space) (xs ++ (x ∷ [])) v.places.next fits (omega (arith, at-k))
      (first_empty (end_at l') v.places.next k (omega (arith, at-k))) b e
      (subst (λ (p : ℕ). ToldSoFar l' p (xs ++ (x ∷ []))) (n ∙ sym at-k) (subst (λ (y : Outcome). ToldSoFar l' (next_of y) (xs ++ (y ∷ []))) r (one_more (reached_on l l' long same was) (rw r g))))

  -- Each event of the machine does what Takes says. It decides nothing yet ..
  pub open_takes : (entry : List ℕ) (m' : Machine) (kept' : List ℕ) → decides most_bytes l' o k ≡ false → Keeping most_bytes l' o (k + 1) m' kept' → Takes l l' xs entry entry (still_open v m' kept')
  open_takes entry m' kept' d b = decides_nothing refl refl (goes m' kept' d b)

  -- .. or it closes the frame ..
  pub closed_takes : (entry : List ℕ) → most_bytes ≤ length entry → (m' : Machine) (b : Bool) → end_at l' k ≡ b → SaysKept Closed m.count most_bytes l' o k m' kept
      → Takes l l' xs entry (laid_by Closed v.inside entry) (closed_frame v (held_by v.inside) b)
  closed_takes entry enough m' b q s =
      let st : Standing = stands l' o k in
      let x : Outcome = good (closed st o k) in
      let r : read_on most_bytes l' v.places.from most_bytes ≡ x = reads s.0 ∙ rw s.1.0 (ap (λ (y : Standing). good (closed y o k)) s.1.1.no_bit) in
      decides_one x refl refl
      (rw (held_is, before.follows.holds, parts_held st, at-k))
      (laid_closed v.inside entry enough ∙ rw (held_is, before.follows.holds, count_of st, kept_is, before.keeps.first))
      (ends_with x refl refl r b q)

  -- .. or it is at fault.
  pub fault_takes : (entry : List ℕ) (f : Fault) (m' : Machine) (b : Bool) → end_at l' k ≡ b → SaysKept (Faulty f) m.count most_bytes l' o k m' kept
      → Takes l l' xs entry entry (fault_heard v f b)
  fault_takes entry f m' b q s =
      let x : Outcome = faulty (fault_number f) k in
      let r : read_on most_bytes l' v.places.from most_bytes ≡ x = reads s.0 ∙ rw (s.1, some_fault f) in
      decides_one x refl refl (rw at-k) refl (ends_with x refl refl r b q)

  takes : (entry : List ℕ) → most_bytes ≤ length entry → (e : Event) (m' : Machine) (b : Bool) → end_at l' k ≡ b → SaysKept e m.count most_bytes l' o k m' kept
      → Takes l l' xs entry (laid_by e v.inside entry) (fed_by e v m' b)
  takes entry enough Going m' b q s =
      open_takes entry m' v.inside.kept s.0 (subst (λ (x : List ℕ). Keeping most_bytes l' o (k + 1) m' x) (sym kept_is) s.1)
  takes entry enough (Byte x) m' b q s =
      let e : set kept m.count x ≡ set v.inside.kept (held_by v.inside).count x = rw (held_is, kept_is) in
      open_takes entry m' (set v.inside.kept (held_by v.inside).count x) s.0 (subst (λ (x : List ℕ). Keeping most_bytes l' o (k + 1) m' x) e s.1.1)
  takes entry enough Closed m' b q s = closed_takes entry enough m' b q s
  takes entry enough (Faulty f) m' b q s = fault_takes entry f m' b q s

  -- So the next interval does, whatever it shows.
  pub takes_next : (w : ℕ) → meaning_of (sign_at v w) ≡ l'.shows k → end_at l' k ≡ ends_at v w → (entry : List ℕ) → most_bytes ≤ length entry
      → Takes l l' xs entry (laid_by (step_at v w).event v.inside entry) (fed_by (step_at v w).event v (step_at v w).machine (ends_at v w))
  takes_next w shows-is end_is entry enough =
      let stepped : step_at v w ≡ step_of most_bytes m (sign_at v w) = ap (λ (x : Machine). step_of most_bytes x (sign_at v w)) held_is in
      takes entry enough (step_at v w).event (step_at v w).machine (ends_at v w) end_is (kept_by most_bytes l' o k m kept before (sign_at v w) (step_at v w) (step_at v w).event shows-is stepped refl)
