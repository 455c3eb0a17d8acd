-- Laws.
-- Any history of calls on a started reader: intervals with as many or as few bytes lent as the caller likes, and questions
-- between them. Refused intervals and questions leave no trace, and what is left is reading.
use Rattle.std.specs.Prelude.{ℕ, ◌+◌, ◌≤◌, ◌<◌, ◌≡◌, refl, Bool, true, false, cond, List, [], ◌∷◌, ◌++◌, map, length}
use Rattle.std.proofs.Common.{sym, ap, subst, ◌∙◌, arith, length-append, eqb-true}
use Rattle.laws.specs.Rules.{first_rule}
use Rattle.laws.specs.RuleLaws.{none_is}
use Rattle.frame.specs.Line.{single}
use Rattle.frame.specs.Faults.{most_bytes}
use Rattle.frame.specs.Reading.{Outcome}
use Rattle.frame.proofs.RecordingOn.{ReadsOn}
use Rattle.live_held.specs.declared.Live.{Live}
use Rattle.live.specs.Feeding.{started, fed_of}
use Rattle.live_held.specs.Held.{last_place}
use Rattle.live.specs.Hearing.{Counts, place_left, all_heard_law, Hears, Takes, decides_nothing, decides_one}
use Rattle.live.proofs.Heard.{starts, takes_it}
use Rattle.live.proofs.ExactlyWhen.{refused_as, refused_leaves, hear_exactly}
use Rattle.live.specs.Promise.{refusal, hear_rules, says_full}
use Rattle.live.specs.Shown.{Delivered, recording, Enough, none, also, Shown, after_one, after_all, shows_one, shows_all, shows_calls, reads, shows_asked, LiveCall, hearing, asking, after_calls, is_taken, taken_in}
use Rattle.live.proofs.Whole.{ShowsOver, hears_all, live_whole}

-- An interval that is not refused had bytes enough.
taken_enough : (v : Live) (i : Delivered) → is_taken v i ≡ true → most_bytes ≤ length i.lent
taken_enough v i e =
    let rules = hear_rules (says_full v) (length i.lent) in
    let first : first_rule rules ≡ 0 = sym (refused_as v i.width (length i.lent)) ∙ eqb-true (refusal (fed_of v i.width (length i.lent)).heard) 0 e in
    let few : ¬ (length i.lent < most_bytes) = ((none_is rules refl).0 first).1.0 in
    omega (arith, few)

all_enough : (cs : List LiveCall) (v : Live) → Enough (taken_in v cs)
all_enough [] v = none
all_enough (asking ∷ cs) v = all_enough cs v
all_enough (hearing i ∷ cs) v = go (is_taken v i) refl (all_enough cs (after_one v i)) (all_enough cs v)
  where
    go : (b : Bool) → is_taken v i ≡ b → Enough (taken_in (after_one v i) cs) → Enough (taken_in v cs) → Enough (cond b (i ∷ taken_in (after_one v i) cs) (taken_in v cs))
    go true e k l = also (taken_enough v i e) k
    go false e k l = l

-- The reader after a history is the one after the intervals that were not refused.
pub after_calls_law : (cs : List LiveCall) (v : Live) → after_calls v cs ≡ after_all v (taken_in v cs)
after_calls_law [] v = refl
after_calls_law (asking ∷ cs) v = after_calls_law cs v
after_calls_law (hearing i ∷ cs) v = go (is_taken v i) refl (after_calls_law cs (after_one v i)) (after_calls_law cs v)
  where
    go : (b : Bool) → is_taken v i ≡ b → after_calls (after_one v i) cs ≡ after_all (after_one v i) (taken_in (after_one v i) cs) → after_calls v cs ≡ after_all v (taken_in v cs)
        → after_calls (after_one v i) cs ≡ after_all v (cond b (i ∷ taken_in (after_one v i) cs) (taken_in v cs))
    go true e k l = k
    go false e k l = ap (λ (u : Live). after_calls u cs) (refused_leaves v i.width i.lent e).0 ∙ l

-- No history has more intervals taken than there are places.
few_taken : (cs : List LiveCall) (done : List ℕ) (xs : List Outcome) (v : Live) → Hears (single done) xs v → length done + length (taken_in v cs) ≤ last_place + 1
few_taken [] done xs v h = go h.counts
  where
    go : Counts (length done) v.places → length done + 0 ≤ last_place + 1
    go (place_left f n k) = omega (arith, k)
    go (all_heard_law f n) = omega (arith, n)
few_taken (asking ∷ cs) done xs v h = few_taken cs done xs v h
few_taken (hearing i ∷ cs) done xs v h =
    go (is_taken v i) refl (few_taken cs done xs v h) (λ ys k. few_taken cs (done ++ (i.width ∷ [])) ys (after_one v i) k)
  where
    has_place : is_taken v i ≡ true → Counts (length done) v.places → length done ≤ last_place
    has_place e (place_left f n k) = k
    has_place e (all_heard_law f n) =
        let z : ◌≡◌ {A = ℕ} 51 0 = sym ((hear_exactly (single done) xs v h i.width i.lent 51 (omega arith)).exactly.1 (omega (arith, n))) ∙ eqb-true (refusal (fed_of v i.width (length i.lent)).heard) 0 e in
        absurd (omega (arith, z))

    one_more : {exit : List ℕ} → Takes (single done) (single (done ++ (i.width ∷ []))) xs i.lent exit (fed_of v i.width (length i.lent))
        → ((ys : List Outcome) → Hears (single (done ++ (i.width ∷ []))) ys (after_one v i) → length (done ++ (i.width ∷ [])) + length (taken_in (after_one v i) cs) ≤ last_place + 1)
        → length done + length (i ∷ taken_in (after_one v i) cs) ≤ last_place + 1
    one_more (decides_nothing t x k) on = omega (arith, on xs k, length-append done (i.width ∷ []))
    one_more (decides_one z g n t x k) on = omega (arith, on (xs ++ (z ∷ [])) k, length-append done (i.width ∷ []))

    go : (b : Bool) → is_taken v i ≡ b → length done + length (taken_in v cs) ≤ last_place + 1
        → ((ys : List Outcome) → Hears (single (done ++ (i.width ∷ []))) ys (after_one v i) → length (done ++ (i.width ∷ [])) + length (taken_in (after_one v i) cs) ≤ last_place + 1)
        → length done + length (cond b (i ∷ taken_in (after_one v i) cs) (taken_in v cs)) ≤ last_place + 1
    go true e l on = one_more (takes_it done xs v h i.width (has_place e h.counts) i.lent (taken_enough v i e)) on
    go false e l on = l

-- What a reader has heard after a history: the intervals that were not refused.
pub heard_so_far : (cs : List LiveCall) → (xs : List Outcome) × Hears (single (recording (taken_in started cs))) xs (after_calls started cs)
heard_so_far cs =
    let is : List Delivered = taken_in started cs in
    let t : ShowsOver (recording is) [] (after_all started is) (shows_all started is) = hears_all is (all_enough cs started) [] [] started starts (omega (arith, few_taken cs [] [] started starts)) in
    (t.new, subst (Hears (single (recording is)) t.new) (sym (after_calls_law cs started)) t.knows)

-- What the calls of a history show is what the intervals that were not refused show by themselves.
pub shows_calls_law : (cs : List LiveCall) (v : Live) → shows_calls v cs ≡ shows_all v (taken_in v cs)
shows_calls_law [] v = refl
shows_calls_law (asking ∷ cs) v = shows_calls_law cs v
shows_calls_law (hearing i ∷ cs) v = go (is_taken v i) refl (shows_calls_law cs (after_one v i)) (shows_calls_law cs v)
  where
    go : (b : Bool) → is_taken v i ≡ b → shows_calls (after_one v i) cs ≡ shows_all (after_one v i) (taken_in (after_one v i) cs) → shows_calls v cs ≡ shows_all v (taken_in v cs)
        → cond b (shows_one v i) [] ++ shows_calls (after_one v i) cs ≡ shows_all v (cond b (i ∷ taken_in (after_one v i) cs) (taken_in v cs))
    go true e k l = ap (λ (x : List Shown). shows_one v i ++ x) k
    go false e k l = ap (λ (u : Live). shows_calls u cs) (refused_leaves v i.width i.lent e).0 ∙ l

-- Whatever calls are made on a started reader: what they themselves show, refused ones and questions aside, and what asking then
-- shows, is what reading the intervals that were not refused as one recording shows.
pub calls_whole : (cs : List LiveCall) (zs : List Outcome) → ReadsOn (recording (taken_in started cs)) most_bytes 0 zs
    → shows_calls started cs ++ (shows_asked (after_calls started cs) ∷ []) ≡ map reads zs
calls_whole cs zs r =
    ap (λ (x : List Shown). x ++ (shows_asked (after_calls started cs) ∷ [])) (shows_calls_law cs started)
    ∙ ap (λ (u : Live). shows_all started (taken_in started cs) ++ (shows_asked u ∷ [])) (after_calls_law cs started)
    ∙ live_whole (taken_in started cs) (all_enough cs started) (omega (arith, few_taken cs [] [] started starts)) zs r
