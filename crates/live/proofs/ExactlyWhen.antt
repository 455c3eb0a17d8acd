-- Laws.
-- When an interval is refused: 51 where there is no place for it, then 32 where under twelve bytes are lent; and that a
-- refusal changes nothing.
use Rattle.std.specs.Prelude.{ℕ, ◌<◌, ◌≡◌, refl, Bool, true, false, cond, not, List, [], ◌∷◌, eqb, ltb, length, Result, Ok, Err}
use Rattle.std.proofs.Common.{◌∙◌, arith, lt-ltb, le-ltb, ne_eqb}
use Rattle.laws.specs.Tests.{never}
use Rattle.laws.specs.Rules.{first_rule, FirstToHold, TurnedAway}
use Rattle.laws.specs.RuleLaws.{first_same, refuses}
use Rattle.frame.specs.Line.{Line}
use Rattle.frame.specs.Faults.{most_bytes}
use Rattle.frame.specs.Reading.{Outcome}
use Rattle.frame.specs.ReadPromise.{bare}
use Rattle.frame_machine.specs.declared.Machine.{Machine}
use Rattle.frame_machine.specs.declared.Event.{Event}
use Rattle.frame_machine.specs.declared.Event.TheVariants.{Going, Byte, Closed, Faulty as FaultyEvent}
use Rattle.live_held.specs.declared.Live.{Live}
use Rattle.live_answer.specs.declared.Heard.{Heard}
use Rattle.live_answer.specs.declared.HearRefusal.{HearRefusal}
use Rattle.live_answer.specs.declared.HearRefusal.TheVariants.{PastPlaces, FewLentBytes}
use Rattle.live_taken.specs.Taken.{waiting, fed_by, step_at, ends_at}
use Rattle.live.specs.Feeding.{refused_by, taken_of, fed_of, laid_of, lent_of}
use Rattle.live_held.specs.Held.{last_place, no_frame}
use Rattle.live.specs.Promise.{told_by, refusal, hear_rules, past_last, says_full}
use Rattle.live.specs.Hearing.{Counts, place_left, all_heard_law, Hears}

-- A refusal is told by its number, and by nothing else.
pub refusal_51 : (h : Result Heard HearRefusal) → refusal h ≡ 51 → told_by h ≡ bare 51 0 0 ∷ []
refusal_51 (Ok heard) e = absurd (omega (arith, e))
refusal_51 (Err PastPlaces) e = refl
refusal_51 (Err FewLentBytes) e = absurd (omega (arith, e))

pub refusal_32 : (h : Result Heard HearRefusal) → refusal h ≡ 32 → told_by h ≡ bare 32 0 0 ∷ []
refusal_32 (Ok heard) e = absurd (omega (arith, e))
refusal_32 (Err PastPlaces) e = absurd (omega (arith, e))
refusal_32 (Err FewLentBytes) e = refl

by_taken : (e : Event) (v : Live) (m : Machine) (b : Bool) → refusal (fed_by e v m b).heard ≡ 0
by_taken Going v m b = refl
by_taken (Byte x) v m b = refl
by_taken Closed v m b = refl
by_taken (FaultyEvent f) v m b = refl

taken_none : (v : Live) (w : ℕ) → refusal (taken_of v w).heard ≡ 0
unfolding taken_of
taken_none v w = go (eqb v.inside.phase no_frame)
  where
    go : (b : Bool) → refusal (cond b (waiting v w) (fed_by (step_at v w).event v (step_at v w).machine (ends_at v w))).heard ≡ 0
    go true = refl
    go false = by_taken (step_at v w).event v (step_at v w).machine (ends_at v w)

-- Whatever a reader holds, an interval is refused with the number of the first rule that holds.
pub refused_as : (v : Live) (w lent : ℕ) → refusal (fed_of v w lent).heard ≡ first_rule (hear_rules (says_full v) lent)
unfolding fed_of
refused_as v w lent = go (eqb v.places.full 0) (ltb lent most_bytes)
  where
    go : (a b : Bool) → refusal (cond (not a) (refused_by v PastPlaces) (cond b (refused_by v FewLentBytes) (taken_of v w))).heard ≡ cond (not a) 51 (cond b 32 0)
    go false b = refl
    go true true = refl
    go true false = taken_none v w

-- A refusal leaves the reader and the lent bytes as they were.
pub refused_leaves : (v : Live) (w : ℕ) (lent : List ℕ) → eqb (refusal (fed_of v w (length lent)).heard) 0 ≡ false
    → ((fed_of v w (length lent)).live ≡ v) × (lent_of v w lent ≡ lent)
unfolding fed_of lent_of
refused_leaves v w lent h = go (eqb v.places.full 0) (ltb (length lent) most_bytes) h
  where
    go : (a b : Bool) → eqb (refusal (cond (not a) (refused_by v PastPlaces) (cond b (refused_by v FewLentBytes) (taken_of v w))).heard) 0 ≡ false
        → ((cond (not a) (refused_by v PastPlaces) (cond b (refused_by v FewLentBytes) (taken_of v w))).live ≡ v) × (cond (not a) lent (cond b lent (laid_of v w lent)) ≡ lent)
    go false b g = (refl, refl)
    go true true g = (refl, refl)
    go true false g = never (rw (taken_none v w)) g

-- For a reader that was started and has heard intervals: it says that there is no place more where the last has been heard.
module _ (l : Line) (xs : List Outcome) (v : Live) (h : Hears l xs v) (w : ℕ) (lent : List ℕ) where
  full_past : Counts l.count v.places → (says_full v).says ≡ (past_last l.count).says
  full_past (place_left f n k) = rw (f, le-ltb last_place l.count k)
  full_past (all_heard_law f n) = rw (f, lt-ltb last_place l.count (omega (arith, n)))

  -- So its number is that of the first of the paper's rules.
  pub by_rules : refusal (fed_of v w (length lent)).heard ≡ first_rule (hear_rules (past_last l.count) (length lent))
  by_rules =
      refused_as v w (length lent)
      ∙ first_same (hear_rules (says_full v) (length lent)) (hear_rules (past_last l.count) (length lent)) (refl, full_past h.counts, λ e. (refl, refl, λ f. tt))

  -- 51 and 32, each exactly when its rule is the first to hold, and then the reader and the lent bytes are as they were.
  pub hear_exactly : (n : ℕ) → 0 < n
      → TurnedAway (refusal (fed_of v w (length lent)).heard) n (FirstToHold n (hear_rules (past_last l.count) (length lent)))
      (((fed_of v w (length lent)).live ≡ v) × (lent_of v w lent ≡ lent))
  hear_exactly n some =
      refuses n (hear_rules (past_last l.count) (length lent)) some refl by_rules
      (λ e. refused_leaves v w lent (rw e (ne_eqb n 0 (λ z. omega (arith, z, some)))))
