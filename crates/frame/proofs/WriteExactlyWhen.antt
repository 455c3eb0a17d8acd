-- Laws.
-- When writing gives which answer: each refusal exactly when document 01 says so, in its order 36, 37, 32, with the words as
-- they were, and the words of the frame exactly when no rule holds.
use Rattle.std.specs.Prelude.{ℕ, ◌≤◌, ◌<◌, ◌≡◌, refl, Bool, true, false, cond, Result, List, ◌↔◌, eqb, length}
use Rattle.std.proofs.Math.Path.{sym}
use Rattle.std.proofs.Common.{ap, ◌∙◌, arith}
use borrow.Author.Tests.{eqb-true, lt-ltb, le-ltb}
use Rattle.laws.specs.Rules.{first_rule, FirstToHold, NoneHolds, TurnedAway}
use Rattle.laws.specs.RuleLaws.{none_is, refuses}
use Rattle.symbol.specs.declared.Clock.{Clock}
use Rattle.symbol.specs.Clocks.{good_of}
use Rattle.frame.specs.declared.Response.{Response}
use Rattle.frame.specs.declared.WriteRefusal.{WriteRefusal}
use Rattle.frame.specs.Writing.{most_words, frame_words, bad_message, Sheet, words, turned_away, write_rules, sheet_by, writing}
use Rattle.frame.specs.WritePromise.{Count, counted, counts, words_after, WritePromise}

-- the number that a sheet is told with is that of the first rule that holds
by_number : (k : ℕ) (ws : List ℕ) → (counts (sheet_by k ws)).number ≡ k
by_number k ws = go (eqb k 0) refl
  where
    go : (t : Bool) → eqb k 0 ≡ t → (counts (cond t (words ws) (turned_away k))).number ≡ k
    go true e = sym (eqb-true k 0 e)
    go false e = refl

-- What writing comes to, rule by rule: 36 ..
module _ (c : Clock) (main : List ℕ) (kind : Response) (rs : List ℕ) (lent : ℕ) where
  pub writes_36 : good_of c ≡ false → writing c main kind rs lent ≡ turned_away 36
  unfolding writing
  writes_36 g = rw g

  -- .. 37 ..
  pub writes_37 : good_of c ≡ true → bad_message main kind rs ≡ true → writing c main kind rs lent ≡ turned_away 37
  unfolding writing
  writes_37 g b = rw (g, b)

  -- .. 32 ..
  pub writes_32 : good_of c ≡ true → bad_message main kind rs ≡ false → lent < most_words → writing c main kind rs lent ≡ turned_away 32
  unfolding writing
  writes_32 g b h = rw (g, b, lt-ltb lent most_words h)

  -- .. or the words of the frame.
  pub writes_words : good_of c ≡ true → bad_message main kind rs ≡ false → most_words ≤ lent → writing c main kind rs lent ≡ words (frame_words c main kind rs)
  unfolding writing
  writes_words g b h = rw (g, b, le-ltb lent most_words h)

unwritten : (x : Sheet) (entry : List ℕ) → 0 < (counts x).number → words_after x entry ≡ entry
unwritten (words ws) entry h = absurd (omega arith)
unwritten (turned_away n) entry h = refl

module _ {c : Clock} {main : List ℕ} {kind : Response} {rs entry exit : List ℕ} {r : Result ℕ WriteRefusal} (q : WritePromise c main kind rs entry exit r) where
  its_number : (counted r).number ≡ (counts (writing c main kind rs (length entry))).number
  its_number = ap (λ (t : Count). t.number) q.counts_it

  -- the number that the call answers is that of the first of its rules that holds
  by_rules : (counted r).number ≡ first_rule (write_rules c main kind rs (length entry))
  unfolding writing
  by_rules = its_number ∙ by_number (first_rule (write_rules c main kind rs (length entry))) (frame_words c main kind rs)

  -- A refusal changes nothing.
  pub nothing_written : 0 < (counted r).number → exit ≡ entry
  nothing_written h = q.lends_it ∙ unwritten (writing c main kind rs (length entry)) entry (rw (← its_number) h)

  -- 36, 37 and 32, each exactly when its rule is the first of writing's rules to hold, and then no word is changed.
  pub write_exactly : (n : ℕ) → 0 < n → TurnedAway (counted r).number n (FirstToHold n (write_rules c main kind rs (length entry))) (exit ≡ entry)
  write_exactly n h =
      refuses n (write_rules c main kind rs (length entry)) h refl by_rules (λ e. nothing_written (rw e h))

  -- A frame is written exactly when no rule holds ..
  pub write_none : ((counted r).number ≡ 0) ↔ NoneHolds (write_rules c main kind rs (length entry))
  write_none =
      let law = none_is (write_rules c main kind rs (length entry)) refl in
      (λ e. law.0 (sym by_rules ∙ e), λ h. by_rules ∙ law.1 h)

  -- .. and then its words stand first in the lent words, the rest is as it was, and their number is told.
  pub written : (counted r).number ≡ 0
      → ((counted r).count ≡ length (frame_words c main kind rs)) × (exit ≡ words_after (words (frame_words c main kind rs)) entry)
  unfolding writing
  written e =
      let z : first_rule (write_rules c main kind rs (length entry)) ≡ 0 = sym by_rules ∙ e in
      (ap (λ (t : Count). t.count) q.counts_it ∙ rw z, q.lends_it ∙ rw z)
