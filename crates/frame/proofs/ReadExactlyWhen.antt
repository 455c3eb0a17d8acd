-- Laws.
-- When the call that reads gives which answer, by the number that it tells: each row of the table "What reading answers", and
-- 31 and 32, each exactly when document 01 says so. And reading again from the next position of 1 or 2 answers the same.
use Rattle.std.specs.Prelude.{ℕ, ◌+◌, ◌≤◌, ◌<◌, ◌≡◌, refl, Bool, true, false, cond, List, [], ◌↔◌, eqb, leb, length, Result}
use Rattle.std.proofs.Common.{sym, ap, ◌∙◌, arith, eqb-true}
use Rattle.laws.specs.Rules.{first_rule, FirstToHold, TurnedAway}
use Rattle.laws.specs.RuleLaws.{first_is}
use Rattle.frame.specs.declared.Reading.{Reading}
use Rattle.frame.specs.declared.ReadRefusal.{ReadRefusal}
use Rattle.frame.specs.Signs.{wrong_of}
use Rattle.frame.specs.Line.{Line, symbol_at, single, Found, nowhere, at, opening}
use Rattle.frame.specs.Standing.{stands}
use Rattle.frame.specs.Faults.{most_bytes}
use Rattle.frame.specs.Reading.{Outcome, good, quiet, unfinished, faulty, refused, fault_at, decided, read_by, read_rules, outcome_by, read_on, reading}
use Rattle.frame.specs.ReadPromise.{Told, told, tells, written, ReadPromise}
use Rattle.frame.proofs.FaultLaws.{Named, named_range, wrong_named, fault_named}
use Rattle.frame.proofs.Outcomes.{comes, opened_reading, quiet_exactly, unfinished_exactly, fault_exactly, reading_fault}
use Rattle.frame.proofs.Decided.{Decision, is_unfinished, is_good, is_faulty, decision, decides_good}
use Rattle.frame.specs.ReadStated.{Opens, Silent, Unclosed, ReadCase, is_past, is_short, is_quiet, is_opened, Answers, is_closed, is_silent, is_unclosed, is_at_fault}

-- ## The rows

-- on a line that shows nothing wrong by itself but what has a name
module _ (limit : ℕ) (l : Line) (itself : (k : ℕ) → 0 < wrong_of (l.shows k) → Named (wrong_of (l.shows k))) (p lent : ℕ) where
  -- what is read of a frame that opens is a row of the table
  opened_answers : (o : ℕ) → limit ≤ lent → Opens l p o → (x : Outcome) → Decision limit l o x → decided limit l o ≡ x → Answers limit l p lent (tells x).number
  opened_answers o fits op x (is_unfinished u) e = is_unclosed (record { enough = fits; opens = op; none_decides = u })
  opened_answers o fits op x (is_good {k} c n h) e =
      is_closed (record { enough = fits; opening = o; opens = op; closing = k; earliest = c; no_fault = n; end = h })
  opened_answers o fits op x (is_faulty {k} c h) e =
      let range = named_range (fault_at limit l o k) (fault_named limit (stands l o k) (l.shows k) (itself k) h) in
      is_at_fault range.0 (record { enough = fits; opening = o; opens = op; at_fault = (fault_exactly limit l o (fault_at limit l o k) k h).0 e })

  -- An answer up to 20 is a row of the table ..
  answers : (x : Outcome) → ReadCase limit l p lent x → read_on limit l p lent ≡ x → (tells x).number ≤ 20 → Answers limit l p lent (tells x).number
  answers x (is_past h) e small = absurd (omega arith)
  answers x (is_short h fits) e small = absurd (omega arith)
  answers x (is_quiet h fits) e small = is_silent ((quiet_exactly limit l p lent).0 e)
  answers x (is_opened {o} h fits op) e small = opened_answers o fits op (decided limit l o) (decision limit l o) refl

  -- .. and a row that holds is answered.
  answered : (n : ℕ) → Answers limit l p lent n → (tells (read_on limit l p lent)).number ≡ n
  answered n (is_closed c) =
      rw (opened_reading limit l p lent c.opening c.enough c.opens ∙ decides_good limit l c.opening c.closing c.earliest c.no_fault c.end)
  answered n (is_silent s) = rw ((quiet_exactly limit l p lent).1 s)
  answered n (is_unclosed {o} u) = rw ((unfinished_exactly limit l p lent o).1 u)
  answered n (is_at_fault {k} h f) = rw ((reading_fault limit l p lent n k (omega (arith, h))).1 f)

  -- The number of what is read is n, up to 20, exactly when row n holds.
  pub row_exactly : (n : ℕ) → n ≤ 20 → ((tells (read_on limit l p lent)).number ≡ n) ↔ Answers limit l p lent n
  row_exactly n small =
      (λ e. rw (← e) (answers (read_on limit l p lent) (comes limit l p lent) refl (rw e small)), answered n)

-- ## The refusals

decided_number : (ws : List ℕ) (o : ℕ) (x : Outcome) → Decision most_bytes (single ws) o x → (tells x).number ≤ 20
decided_number ws o x (is_unfinished u) = omega arith
decided_number ws o x (is_good e f h) = omega arith
decided_number ws o x (is_faulty {k} e h) =
    (named_range (fault_at most_bytes (single ws) o k) (fault_named most_bytes (stands (single ws) o k) ((single ws).shows k) (wrong_named (symbol_at ws k)) h)).1

-- What is read has a number up to 20, which no rule has.
read_number : (ws : List ℕ) (p : ℕ) (f : Found) → (tells (read_by f most_bytes (single ws) p)).number ≤ 20
read_number ws p nowhere = omega arith
read_number ws p (at o) = go (leb (single ws).count (o + 1))
  where
    go : (b : Bool) → (tells (cond b (quiet p) (decided most_bytes (single ws) o))).number ≤ 20
    go true = omega arith
    go false = decided_number ws o (decided most_bytes (single ws) o) (decision most_bytes (single ws) o)

-- A number above those is told exactly when it is that of the first rule that holds.
by_number : (k n : ℕ) (x : Outcome) → (tells x).number ≤ 20 → 20 < n → ((tells (outcome_by k x)).number ≡ n) ↔ (k ≡ n)
by_number k n x s h = go (eqb k 0) refl
  where
    go : (t : Bool) → eqb k 0 ≡ t → ((tells (cond t x (refused k))).number ≡ n) ↔ (k ≡ n)
    go true e =
        let none : k ≡ 0 = eqb-true k 0 e in
        (λ q. absurd (omega (arith, s, h, q)), λ q. absurd (omega (arith, none, h, q)))
    go false e = (λ q. q, λ q. q)

unwritten : (x : Outcome) → 0 < (tells x).number → written x ≡ []
unwritten (good f) h = absurd (omega arith)
unwritten (quiet next) h = refl
unwritten (unfinished opening) h = refl
unwritten (faulty number next) h = refl
unwritten (refused number) h = refl

module _ {ws : List ℕ} {p : ℕ} {entry exit : List ℕ} {r : Result Reading ReadRefusal} (q : ReadPromise ws p entry exit r) where
  its_number : (told r).number ≡ (tells (reading ws p (length entry))).number
  its_number = ap (λ (t : Told). t.number) q.tells_it

  -- "On any other answer nothing is written."
  pub nothing_written : 0 < (told r).number → exit ≡ entry
  nothing_written h = q.lends_it ∙ rw (unwritten (reading ws p (length entry)) (rw (← its_number) h))

  by_rules : (n : ℕ) → 20 < n → ((tells (reading ws p (length entry))).number ≡ n) ↔ (first_rule (read_rules most_bytes (single ws) p (length entry)) ≡ n)
  unfolding read_on
  by_rules n h =
      by_number (first_rule (read_rules most_bytes (single ws) p (length entry))) n (read_by (opening (single ws) p) most_bytes (single ws) p)
      (read_number ws p (opening (single ws) p)) h

  -- 31 and 32, each exactly when its rule is the first of reading's rules to hold, and then no byte is changed. The numbers up
  -- to 20 are of what is read.
  pub read_exactly : (n : ℕ) → 20 < n
      → TurnedAway (told r).number n (FirstToHold n (read_rules most_bytes (single ws) p (length entry))) (exit ≡ entry)
  read_exactly n h =
      let law = first_is n (read_rules most_bytes (single ws) p (length entry)) (omega (arith, h)) refl in
      let number = by_rules n h in
      record {
        exactly = (λ e. law.0 (number.0 (sym its_number ∙ e)), λ f. its_number ∙ number.1 (law.1 f));
        unchanged = λ f. nothing_written (rw (its_number ∙ number.1 (law.1 f)) (omega (arith, h)));
      }

  -- 0, 1, 2 and 11 to 20, each exactly when its row of the table "What reading answers" holds.
  pub read_row : (n : ℕ) → n ≤ 20 → ((told r).number ≡ n) ↔ Answers most_bytes (single ws) p (length entry) n
  read_row n h =
      let row = row_exactly most_bytes (single ws) (λ k. wrong_named (symbol_at ws k)) p (length entry) n h in
      (λ e. row.0 (sym its_number ∙ e), λ a. its_number ∙ row.1 a)

-- ## Reading again

-- What is quiet from p is quiet from p with any bytes enough lent ..
quiet_again : (limit : ℕ) (l : Line) (p lent lent' : ℕ) → limit ≤ lent' → Silent limit l p lent → read_on limit l p lent' ≡ quiet p
quiet_again limit l p lent lent' h s =
    (quiet_exactly limit l p lent').1 (record { inside = s.inside; enough = h; none_opens = s.none_opens })

-- .. and a frame that is unfinished is so from its own opening.
unfinished_again : (limit : ℕ) (l : Line) (p lent lent' o : ℕ) → limit ≤ lent' → Unclosed limit l p lent o → read_on limit l o lent' ≡ unfinished o
unfinished_again limit l p lent lent' o h u =
    (unfinished_exactly limit l o lent' o).1 (record { enough = h; opens = opens; none_decides = u.none_decides })
  where
    opens : Opens l o o
    opens = record { from = omega arith; end = u.opens.end; none_before = λ j a b. absurd (omega arith); followed = u.opens.followed }

-- Reading again from the next position of 1 or 2, with bytes enough lent, answers the same.
module _ {ws : List ℕ} {p : ℕ} {entry exit entry' exit' : List ℕ} {r r' : Result Reading ReadRefusal}
    (q : ReadPromise ws p entry exit r) (q' : ReadPromise ws (told r).next entry' exit' r') (enough : most_bytes ≤ length entry') where
  -- the answer to reading again, where the first comes to x and so does reading from its next position
  same_again : (x : Outcome) → reading ws p (length entry) ≡ x → reading ws (tells x).next (length entry') ≡ x → told r' ≡ told r
  same_again x e f =
      let first : told r ≡ tells x = q.tells_it ∙ ap tells e in
      let next : (told r).next ≡ (tells x).next = ap (λ (t : Told). t.next) first in
      q'.tells_it ∙ rw next (ap tells f) ∙ sym first

  -- of 1
  pub quiet_read_again : (told r).number ≡ 1 → told r' ≡ told r
  quiet_read_again e = go ((read_row q 1 (omega arith)).0 e) refl
    where
      go : {n : ℕ} → Answers most_bytes (single ws) p (length entry) n → n ≡ 1 → told r' ≡ told r
      go (is_closed c) z = absurd (omega arith)
      go (is_silent s) z =
          same_again (quiet p) ((quiet_exactly most_bytes (single ws) p (length entry)).1 s) (quiet_again most_bytes (single ws) p (length entry) (length entry') enough s)
      go (is_unclosed u) z = absurd (omega arith)
      go (is_at_fault h f) z = absurd (omega arith)

  -- of 2
  pub unfinished_read_again : (told r).number ≡ 2 → told r' ≡ told r
  unfinished_read_again e = go ((read_row q 2 (omega arith)).0 e) refl
    where
      go : {n : ℕ} → Answers most_bytes (single ws) p (length entry) n → n ≡ 2 → told r' ≡ told r
      go (is_closed c) z = absurd (omega arith)
      go (is_silent s) z = absurd (omega arith)
      go (is_unclosed {o} u) z =
          same_again (unfinished o) ((unfinished_exactly most_bytes (single ws) p (length entry) o).1 u) (unfinished_again most_bytes (single ws) p (length entry) (length entry') o enough u)
      go (is_at_fault h f) z = absurd (omega arith)
