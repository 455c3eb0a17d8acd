-- Laws.
-- When a call on a live reader gives which answer, by the number that it tells: 0, each fault, 51, 32 and nothing yet at an
-- interval, 1 and 2 when asked, each exactly when the papers say so. The reader was started, and any calls were made on it.
use Rattle.std.specs.Prelude.{ℕ, zero, suc, ◌+◌, ◌≤◌, ◌<◌, ◌≡◌, refl, Bool, true, false, ◌↔◌, ◌⊎◌, eqb, length, Result, Ok, Err}
use Rattle.std.proofs.Common.{sym, ap, subst, ◌∙◌, inl, inr, arith, eqb-true}
use mathlib.Core.List.{List, [], ◌∷◌, ◌++◌, map, append_assoc, append_cancel_left, head-eq_of_cons-eq, tail-eq_of_cons-eq, cons≢nil, nil≢cons}
use Rattle.std.proofs.lemmas.Bool.{eqb-false}
use Rattle.laws.specs.Rules.{Rule, first_rule, FirstToHold, NoneHolds}
use Rattle.laws.specs.RuleLaws.{first_is, none_is}
use Rattle.frame.specs.Line.{Line, symbol_at, single}
use Rattle.frame.specs.Faults.{most_bytes}
use Rattle.frame.specs.Reading.{Outcome, read_on, reading}
use Rattle.frame.specs.ReadPromise.{fault_number, Told, tells}
use Rattle.frame.specs.ReadStated.{Answers, is_closed, is_silent, is_unclosed, is_at_fault}
use Rattle.frame.proofs.Outcomes.{reading_fault}
use Rattle.frame.proofs.FaultLaws.{wrong_named, other_number, named_range}
use Rattle.frame.proofs.ReadExactlyWhen.{row_exactly}
use Rattle.frame.specs.ReadingOn.{last, more, reads_once, reads_through}
use Rattle.frame.proofs.RecordingOn.{ReadsOn, reads_on, stops}
use Rattle.live_held.specs.declared.Live.{Live}
use Rattle.live_answer.specs.declared.Heard.{Heard}
use Rattle.live_answer.specs.declared.Heard.TheVariants.{Nothing, Frame, Faulty}
use Rattle.live_answer.specs.declared.HearRefusal.{HearRefusal}
use Rattle.live_answer.specs.declared.HearRefusal.TheVariants.{PastPlaces, FewLentBytes}
use Rattle.live_answer.specs.declared.Fed.{Fed}
use Rattle.live.specs.declared.Asked.{Asked}
use Rattle.live.specs.Feeding.{started, fed_of, asked_of}
use Rattle.live.specs.Promise.{asked_told, refusal}
use Rattle.live.specs.Hearing.{ToldSoFar, Hears, Takes, decides_nothing, decides_one}
use Rattle.live.specs.Taking.{reached_in, reached_on}
use Rattle.live.proofs.Heard.{long, same, takes_it}
use Rattle.live.proofs.ExactlyWhen.{by_rules}
use Rattle.live.specs.Asking.{asks}
use Rattle.live.specs.Shown.{on, LiveCall, after_calls}
use Rattle.live.proofs.History.{heard_so_far}
use Rattle.live.specs.Stated.{heard_in, number_told, StopsAt, at_interval, rules_after, HearTells, is_refused, is_row}

-- ## Where reading stops

-- Two lists that are the same with one more at the end are the same, and so is the one more.
same_before : {A : Type 0} (xs ys : List A) (a b : A) → xs ++ (a ∷ []) ≡ ys ++ (b ∷ []) → (xs ≡ ys) × (a ≡ b)
same_before [] [] a b e = (refl, head-eq_of_cons-eq e)
same_before [] (y ∷ []) a b e = absurd (cons≢nil (sym (tail-eq_of_cons-eq e)))
same_before [] (y ∷ z ∷ ys) a b e = absurd (cons≢nil (sym (tail-eq_of_cons-eq e)))
same_before (x ∷ []) [] a b e = absurd (cons≢nil (tail-eq_of_cons-eq e))
same_before (x ∷ z ∷ xs) [] a b e = absurd (cons≢nil (tail-eq_of_cons-eq e))
same_before {A} (x ∷ xs) (y ∷ ys) a b e =
    let r = same_before xs ys a b (tail-eq_of_cons-eq e) in
    (ap (λ (l : List A). x ∷ l) r.0 ∙ ap (λ (z : A). z ∷ ys) (head-eq_of_cons-eq e), r.1)

-- A reader that has heard ws goes on from where reading them stops.
module _ (ws : List ℕ) (xs : List Outcome) (v : Live) (h : Hears (single ws) xs v) (p : ℕ) (s : StopsAt ws p) where
  both : (s.before ≡ xs) × (reading ws p most_bytes ≡ reading ws v.places.from most_bytes)
  both =
      same_before s.before xs (reading ws p most_bytes) (reading ws v.places.from most_bytes)
      (reads_once (reads_through s.reached (last s.stops)) (reads_through h.reached (last (asks (single ws) xs v h).1)))

  -- the answers from p on, in the recording with one interval more
  module _ (w : ℕ) where
    -- The next answer from p is the first that follows the ones told before.
    next_is : (z : Outcome) (zs : List Outcome) → ReadsOn (on ws w) most_bytes 0 (xs ++ (z ∷ zs)) → reading (on ws w) p most_bytes ≡ z
    next_is z zs r = go _ (reads_on (length (on ws w) + 1) (on ws w) most_bytes p (omega arith) (omega arith))
      where
        told : ToldSoFar (single (on ws w)) p xs
        told = subst (ToldSoFar (single (on ws w)) p) both.0 (reached_on (single ws) (single (on ws w)) (long ws w) (same ws w) s.reached)

        front : (ys : List Outcome) → ReadsOn (on ws w) most_bytes p ys → ys ≡ z ∷ zs
        front ys k = append_cancel_left xs ys (z ∷ zs) (reads_once (reads_through told k) r)

        go : (ys : List Outcome) → ReadsOn (on ws w) most_bytes p ys → reading (on ws w) p most_bytes ≡ z
        go ys (last e) = head-eq_of_cons-eq (front ys (last e))
        go ys (more e k) = head-eq_of_cons-eq (front ys (more e k))

-- ## One interval

-- the number of what is read
abbrev number_of : Outcome → ℕ
number_of x = (tells x).number

-- A refusal tells its number ..
refused_number : (h : Result Heard HearRefusal) → 0 < refusal h → number_told h ≡ refusal h ∷ []
refused_number (Ok heard) some = absurd (omega arith)
refused_number (Err PastPlaces) some = refl
refused_number (Err FewLentBytes) some = refl

-- .. and every other number told is that of a row which tells it, up to 20.
own_row : (h : Result Heard HearRefusal) (n : ℕ) → refusal h ≡ 0 → number_told h ≡ n ∷ [] → (n ∷ [] ≡ at_interval n) × (n ≤ 20)
own_row (Ok Nothing) n z e = absurd (nil≢cons e)
own_row (Ok (Frame lengths response opening next)) n z e = rw (← (head-eq_of_cons-eq e)) (refl, omega arith)
own_row (Ok (Faulty fault next)) n z e =
    let range = named_range (fault_number fault) (record { fault_is = fault; number_is = refl }) in
    rw (← (head-eq_of_cons-eq e)) (rw (other_number fault 1 (inl (omega arith)), other_number fault 2 (inl (omega arith))), range.1)
own_row (Err PastPlaces) n z e = absurd (omega (arith, z))
own_row (Err FewLentBytes) n z e = absurd (omega (arith, z))

-- what an interval that is taken tells, by what is read of the recording with it
pub record ByRow (h : Result Heard HearRefusal) (x : Outcome) : Type 0 where
  pub tells_row : number_told h ≡ at_interval (number_of x)
  pub small : number_of x ≤ 20

-- Rows 1 and 2 tell nothing yet.
nothing_yet : (h : Result Heard HearRefusal) (x : Outcome) → number_told h ≡ [] → (number_of x ≡ 1) ⊎ (number_of x ≡ 2) → ByRow h x
nothing_yet h x t (inl e) = record { tells_row = t ∙ rw e; small = rw e (omega arith) }
nothing_yet h x t (inr e) = record { tells_row = t ∙ rw e; small = rw e (omega arith) }

module _ (ws : List ℕ) (xs : List Outcome) (v : Live) (heard : Hears (single ws) xs v) (p : ℕ) (s : StopsAt ws p) (w : ℕ) where
  abbrev l' : Line
  l' = single (on ws w)

  by_row : {entry exit : List ℕ} (fed : Fed) → Takes (single ws) l' xs entry exit fed → refusal fed.heard ≡ 0 → ByRow fed.heard (reading (on ws w) p most_bytes)
  by_row fed (decides_nothing t e k) z =
      let from : ℕ = fed.live.places.from in
      let a = asks l' xs fed.live k in
      let is : reading (on ws w) p most_bytes ≡ read_on most_bytes l' from most_bytes = next_is ws xs v heard p s w (read_on most_bytes l' from most_bytes) [] (reads_through k.reached (last a.1)) in
      nothing_yet fed.heard (reading (on ws w) p most_bytes) (ap (map (λ (y : Told). y.number)) t) (rw is (stops most_bytes l' from most_bytes (reached_in l' k.reached) (omega arith) a.1))
  by_row fed (decides_one x g n t e k) z =
      let from : ℕ = fed.live.places.from in
      let a = asks l' (xs ++ (x ∷ [])) fed.live k in
      let after : Outcome = read_on most_bytes l' from most_bytes in
      let is : reading (on ws w) p most_bytes ≡ x = next_is ws xs v heard p s w x (after ∷ []) (subst (ReadsOn (on ws w) most_bytes 0) (append_assoc xs (x ∷ []) (after ∷ [])) (reads_through k.reached (last a.1))) in
      let number : number_told fed.heard ≡ number_of x ∷ [] = ap (map (λ (y : Told). y.number)) t in
      let own = own_row fed.heard (number_of x) z number in
      record { tells_row = rw is (number ∙ own.0); small = rw is own.1 }

  module _ (entry : List ℕ) where
    -- the answer
    abbrev answer : Result Heard HearRefusal
    answer = (fed_of v w (length entry)).heard

    rule_some : (n : ℕ) → FirstToHold n (rules_after ws (length entry)) → 0 < n
    rule_some zero f = absurd f.1.1
    rule_some (suc n) f = omega arith

    -- a row that holds of what is read has the number of it
    row_number : {n : ℕ} → number_of (reading (on ws w) p most_bytes) ≤ 20 → Answers most_bytes l' p most_bytes n → number_of (reading (on ws w) p most_bytes) ≡ n
    row_number {n} small a = (row_exactly most_bytes l' (λ k. wrong_named (symbol_at (on ws w) k)) p most_bytes n (bounded a)).1 a
      where
        bounded : {m : ℕ} → Answers most_bytes l' p most_bytes m → m ≤ 20
        bounded (is_closed c) = omega arith
        bounded (is_silent q) = omega arith
        bounded (is_unclosed u) = omega arith
        bounded {m} (is_at_fault {k = k} h f) =
            let e : number_of (reading (on ws w) p most_bytes) ≡ m = ap number_of ((reading_fault most_bytes l' p most_bytes m k (omega (arith, h))).1 f) in
            rw (← e) small

    by_answer : (ns : List ℕ) → (number_told answer ≡ ns) ↔ HearTells ws p w (length entry) ns
    by_answer ns = go (eqb (refusal answer) 0) refl
      where
        rules : List Rule
        rules = rules_after ws (length entry)

        first : refusal answer ≡ first_rule rules
        first = by_rules (single ws) xs v heard w entry

        go : (b : Bool) → eqb (refusal answer) 0 ≡ b → (number_told answer ≡ ns) ↔ HearTells ws p w (length entry) ns
        go false e = (there, back)
          where
            some : 0 < refusal answer
            some = omega (arith, eqb-false (refusal answer) 0 e)

            there : number_told answer ≡ ns → HearTells ws p w (length entry) ns
            there q = is_refused (sym q ∙ refused_number answer some) ((first_is (refusal answer) rules some refl).0 (sym first))

            back : HearTells ws p w (length entry) ns → number_told answer ≡ ns
            back (is_refused {n} q f) =
                refused_number answer some ∙ ap (λ (x : ℕ). x ∷ []) (first ∙ (first_is n rules (rule_some n f) refl).1 f) ∙ sym q
            back (is_row q none a) = absurd (eqb-false (refusal answer) 0 e (first ∙ (none_is rules refl).1 none))
        go true e = (there, back)
          where
            none_first : first_rule rules ≡ 0
            none_first = sym first ∙ eqb-true (refusal answer) 0 e

            nothing_holds : NoneHolds rules
            nothing_holds = (none_is rules refl).0 none_first

            row : ByRow answer (reading (on ws w) p most_bytes)
            row =
                by_row (fed_of v w (length entry))
                (takes_it ws xs v heard w (omega (arith, nothing_holds.0)) entry (omega (arith, nothing_holds.1.0)))
                (eqb-true (refusal answer) 0 e)

            there : number_told answer ≡ ns → HearTells ws p w (length entry) ns
            there q =
                is_row (sym q ∙ row.tells_row) nothing_holds
                ((row_exactly most_bytes l' (λ k. wrong_named (symbol_at (on ws w) k)) p most_bytes (number_of (reading (on ws w) p most_bytes)) row.small).0 refl)

            back : HearTells ws p w (length entry) ns → number_told answer ≡ ns
            back (is_refused {n} q f) =
                absurd (omega (arith, rule_some n f, (first_is n rules (rule_some n f) refl).1 f, none_first))
            back (is_row q none a) = row.tells_row ∙ ap at_interval (row_number row.small a) ∙ sym q

-- ## The calls

-- Whatever calls were made on a started reader, reading the intervals that were not refused stops somewhere: where it goes on.
pub stops_there : (cs : List LiveCall) → StopsAt (heard_in cs) (after_calls started cs).places.from
stops_there cs =
    let so = heard_so_far cs in
    record { before = so.0; reached = so.1.reached; stops = (asks (single (heard_in cs)) so.0 (after_calls started cs) so.1).1 }

-- Any calls were made on a started reader, and reading the intervals that were not refused stops at p.
module _ (cs : List LiveCall) (p : ℕ) (s : StopsAt (heard_in cs) p) where
  -- The number that an interval tells, or that it tells none yet, exactly when: one law for 0, 11 to 20, 51, 32 and nothing yet.
  pub hear_row : (w : ℕ) (entry : List ℕ) {r : Result Heard HearRefusal} → r ≡ (fed_of (after_calls started cs) w (length entry)).heard
      → (ns : List ℕ) → (number_told r ≡ ns) ↔ HearTells (heard_in cs) p w (length entry) ns
  hear_row w entry {r} q ns =
      let so = heard_so_far cs in
      let law = by_answer (heard_in cs) so.0 (after_calls started cs) so.1 p s w entry ns in
      (λ e. law.0 (ap number_told (sym q) ∙ e), λ t. ap number_told q ∙ law.1 t)

  -- The number that asking tells, exactly when its row holds of the intervals heard so far: 1 and 2, and no other.
  pub ask_row : {r : Asked} → r ≡ asked_of (after_calls started cs) → (n : ℕ) → n ≤ 20
      → ((asked_told r).number ≡ n) ↔ Answers most_bytes (single (heard_in cs)) p most_bytes n
  ask_row {r} q n small =
      let so = heard_so_far cs in
      let law = row_exactly most_bytes (single (heard_in cs)) (λ k. wrong_named (symbol_at (heard_in cs) k)) p most_bytes n small in
      let is : (asked_told r).number ≡ number_of (reading (heard_in cs) p most_bytes) = ap (λ (a : Asked). (asked_told a).number) q
      ∙ ap (λ (t : Told). t.number) (asks (single (heard_in cs)) so.0 (after_calls started cs) so.1).0
      ∙ ap number_of (sym (both (heard_in cs) so.0 (after_calls started cs) so.1 p s).1) in
      (λ e. law.0 (sym is ∙ e), λ a. is ∙ law.1 a)
