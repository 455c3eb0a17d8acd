-- Laws.
-- What the test of a refusal says: a refusal is the answer, and changes nothing; otherwise the interval is taken.
use Rattle.std.specs.Prelude.{ℕ, ◌≡◌, refl, Bool, true, false, cond, not, List, eqb, ltb, length, Result, Ok, Err, MatchResult}
use Rattle.std.proofs.Common.{◌∙◌, eq-eqb, ne_eqb}
use Rattle.std.proofs.lemmas.Result.{MatchResult-at_ok, MatchResult-at_err}
use Rattle.laws.specs.Rules.{first_rule}
use Rattle.frame.specs.Faults.{most_bytes}
use Rattle.live_held.specs.declared.Live.{Live}
use Rattle.live_answer.specs.declared.Heard.{Heard}
use Rattle.live_answer.specs.declared.HearRefusal.{HearRefusal}
use Rattle.live_answer.specs.declared.HearRefusal.TheVariants.{PastPlaces, FewLentBytes}
use Rattle.live_answer.specs.Answered.{is_refusal}
use Rattle.live_held.specs.Held.{no_frame}
use Rattle.live_taken.specs.Taken.{waiting, fed_by, step_at, ends_at, laid_by}
use Rattle.live.specs.Promise.{refusal, hear_rules, says_full}
use Rattle.live.specs.Feeding.{taken_of, refused_by, refusal_of, fed_of, laid_of, lent_of}

-- A refusal is what has a refusal's number.
pub refusal_is : (h : Result Heard HearRefusal) → is_refusal h ≡ not (eqb (refusal h) 0)
refusal_is (Ok heard) = refl
refusal_is (Err PastPlaces) = refl
refusal_is (Err FewLentBytes) = refl

-- The number of the refusal is that of the first rule that holds.
pub refusal_first : (v : Live) (lent : ℕ) → refusal (refusal_of v lent) ≡ first_rule (hear_rules (says_full v) lent)
unfolding refusal_of
refusal_first v lent = go (eqb v.places.full 0) (ltb lent most_bytes)
  where
    go : (x y : Bool) → refusal {A = Unit {0}} (cond (not x) (Err PastPlaces) (cond y (Err FewLentBytes) (Ok tt))) ≡ cond (not x) 51 (cond y 32 0)
    go false y = refl
    go true true = refl
    go true false = refl

-- A refusal is the answer, and the reader and the lent bytes are as they were. Otherwise the interval is taken.
pub hear_by : (v : Live) (w : ℕ) (lent : List ℕ) → MatchResult (refusal_of v (length lent))
    (λ _. (fed_of v w (length lent) ≡ taken_of v w) × (lent_of v w lent ≡ laid_of v w lent))
    (λ why. (fed_of v w (length lent) ≡ refused_by v why) × (lent_of v w lent ≡ lent))
unfolding refusal_of fed_of lent_of
hear_by v w lent = go (eqb v.places.full 0) (ltb (length lent) most_bytes)
  where
    go : (x y : Bool) → MatchResult {T = Unit {0}} (cond (not x) (Err PastPlaces) (cond y (Err FewLentBytes) (Ok tt)))
        (λ _. (cond (not x) (refused_by v PastPlaces) (cond y (refused_by v FewLentBytes) (taken_of v w)) ≡ taken_of v w)
        × (cond (not x) lent (cond y lent (laid_of v w lent)) ≡ laid_of v w lent))
        (λ why. (cond (not x) (refused_by v PastPlaces) (cond y (refused_by v FewLentBytes) (taken_of v w)) ≡ refused_by v why)
        × (cond (not x) lent (cond y lent (laid_of v w lent)) ≡ lent))
    go false y = (refl, refl)
    go true true = (refl, refl)
    go true false = (refl, refl)

module _ (v : Live) (w : ℕ) (lent : List ℕ) where
  -- Each refusal is the answer, and the reader and the lent bytes are as they were.
  pub refused_so : (why : HearRefusal) → refusal_of v (length lent) ≡ Err why → (fed_of v w (length lent) ≡ refused_by v why) × (lent_of v w lent ≡ lent)
  refused_so why e = MatchResult-at_err _ _ why e (hear_by v w lent)

  -- Where there is none the interval is taken: before a frame ..
  pub taken_outside : refusal_of v (length lent) ≡ Ok tt → v.inside.phase ≡ no_frame → (fed_of v w (length lent) ≡ waiting v w) × (lent_of v w lent ≡ lent)
  unfolding taken_of laid_of
  taken_outside e p =
      let r = MatchResult-at_ok _ _ tt e (hear_by v w lent) in
      (r.0 ∙ rw (eq-eqb v.inside.phase no_frame p), r.1 ∙ rw (eq-eqb v.inside.phase no_frame p))

  -- .. or in one.
  pub taken_inside : refusal_of v (length lent) ≡ Ok tt → ¬ (v.inside.phase ≡ no_frame)
      → (fed_of v w (length lent) ≡ fed_by (step_at v w).event v (step_at v w).machine (ends_at v w)) × (lent_of v w lent ≡ laid_by (step_at v w).event v.inside lent)
  unfolding taken_of laid_of
  taken_inside e p =
      let r = MatchResult-at_ok _ _ tt e (hear_by v w lent) in
      (r.0 ∙ rw (ne_eqb v.inside.phase no_frame p), r.1 ∙ rw (ne_eqb v.inside.phase no_frame p))
