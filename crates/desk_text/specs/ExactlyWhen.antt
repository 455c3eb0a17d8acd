-- Laws.
-- When the desk's calls answer which number: each of 61 and 62 exactly when its rule is the first to hold, with the lent words
-- as they were, and 0 exactly when none does.
use Rattle.std.specs.Prelude.{ℕ, ◌<◌, ◌≡◌, refl, List, ◌↔◌, length, Result}
use Rattle.std.proofs.Common.{sym, ◌∙◌, arith}
use Rattle.std.proofs.Math.Path.{ap}
use borrow.Author.Tests.{ne_eqb}
use Rattle.laws.specs.Rules.{first_rule, FirstToHold, NoneHolds, TurnedAway}
use Rattle.laws.specs.RuleLaws.{none_is, refuses}
use Rattle.desk_text.specs.declared.GoodInput.{GoodInput}
use Rattle.desk_text.specs.declared.InputRefusal.{InputRefusal}
use Rattle.desk_text.specs.declared.Answered.{Answered}
use Rattle.desk_text.specs.declared.FewLent.{FewLent}
use Rattle.desk_text.specs.Input.{lines, first_bad, recording_of}
use Rattle.desk_text.specs.Report.{desk_of}
use Rattle.desk_text.specs.Promise.{lent_short, judge_rules, desk_rules, judging, JudgedTale, judged_told, laid_on, JudgePromise, answering, DeskTale, answered_told, DeskPromise}

-- ## Judging

module _ {s entry exit : List ℕ} {r : Result GoodInput InputRefusal} (q : JudgePromise s entry exit r) where
  its_number : (judged_told r).number ≡ (judging s (length entry)).number
  its_number = ap (λ (t : JudgedTale). t.number) q.tells_it

  -- the number that judging answers is that of the first of its rules that holds
  by_rules : (judged_told r).number ≡ first_rule (judge_rules s (length entry))
  unfolding judging
  by_rules = its_number

  -- 61 and 62, each exactly when its rule is the first to hold, and then no word is changed: fewer than 16,384 words lent;
  -- enough, and some line bad.
  pub judge_exactly : (n : ℕ) → 0 < n → TurnedAway (judged_told r).number n (FirstToHold n (judge_rules s (length entry))) (exit ≡ entry)
  judge_exactly n h =
      refuses n (judge_rules s (length entry)) h refl by_rules (λ e. q.lends_it ∙ rw (sym its_number ∙ e, ne_eqb n 0 (λ z. omega arith)))

  -- The line told of with 62 is the first bad one.
  pub judge_line : (judged_told r).number ≡ 62 → (judged_told r).line ≡ first_bad (lines s)
  unfolding judging
  judge_line e = ap (λ (t : JudgedTale). t.line) q.tells_it ∙ rw (sym by_rules ∙ e)

  -- 0 exactly when no rule holds: enough is lent, and no line is bad.
  pub judge_none : ((judged_told r).number ≡ 0) ↔ NoneHolds (judge_rules s (length entry))
  judge_none =
      let law = none_is (judge_rules s (length entry)) refl in
      (λ e. law.0 (sym by_rules ∙ e), λ h. by_rules ∙ law.1 h)

  -- Then the input's widths stand first in the lent words, and the rest is unchanged.
  pub judge_lays : (judged_told r).number ≡ 0 → exit ≡ laid_on (recording_of (lines s)) entry
  judge_lays e = q.lends_it ∙ rw (sym its_number ∙ e)

-- ## The desk's call

module _ {s words left entry exit : List ℕ} {r : Result Answered FewLent} (q : DeskPromise s words left entry exit r) where
  desk_number : (answered_told r).number ≡ (answering s (length words) (length entry)).number
  desk_number = ap (λ (t : DeskTale). t.number) q.tells_it

  -- the number that the desk answers is that of the first of its rules that holds
  by_desk_rules : (answered_told r).number ≡ first_rule (desk_rules s (length words) (length entry))
  unfolding answering
  by_desk_rules = desk_number

  -- 61 and 62, each exactly when its rule is the first to hold, and then no word is changed: too few words or bytes lent;
  -- enough, and some line bad.
  pub desk_exactly : (n : ℕ) → 0 < n → TurnedAway (answered_told r).number n (FirstToHold n (desk_rules s (length words) (length entry))) (left ≡ words)
  desk_exactly n h =
      refuses n (desk_rules s (length words) (length entry)) h refl by_desk_rules
      (λ e. q.words_it ∙ rw (sym desk_number ∙ e, ne_eqb n 0 (λ z. omega arith)))

  -- 61, and no byte is changed
  pub desk_61 : TurnedAway (answered_told r).number 61 (FirstToHold 61 (desk_rules s (length words) (length entry))) (exit ≡ entry)
  desk_61 = refuses 61 (desk_rules s (length words) (length entry)) (omega arith) refl by_desk_rules (λ e. q.lends_it ∙ rw (sym desk_number ∙ e))

  -- The line told of with 62 is the first bad one.
  pub desk_line : (answered_told r).number ≡ 62 → (answered_told r).line ≡ first_bad (lines s)
  unfolding answering
  desk_line e = ap (λ (t : DeskTale). t.line) q.tells_it ∙ rw (sym by_desk_rules ∙ e)

  -- 0 exactly when no rule holds: enough is lent, and no line is bad.
  pub desk_none : ((answered_told r).number ≡ 0) ↔ NoneHolds (desk_rules s (length words) (length entry))
  desk_none =
      let law = none_is (desk_rules s (length words) (length entry)) refl in
      (λ e. law.0 (sym by_desk_rules ∙ e), λ h. by_desk_rules ∙ law.1 h)

  -- Then the input's widths stand first in the lent words, and the rest is unchanged.
  pub desk_lays : (answered_told r).number ≡ 0 → left ≡ laid_on (recording_of (lines s)) words
  desk_lays e = q.words_it ∙ rw (sym desk_number ∙ e)

  -- Where enough is lent, the text stands first in the lent bytes, the rest of which is unchanged, and its length is told.
  pub desk_writes : ¬ (lent_short (length words) (length entry)).Holds → (exit ≡ laid_on (desk_of s) entry) × ((answered_told r).length ≡ length (desk_of s))
  unfolding answering
  desk_writes n =
      let e = ne_eqb (answering s (length words) (length entry)).number 61 (λ z. n (desk_61.exactly.0 (desk_number ∙ z))) in
      (q.lends_it ∙ rw e, ap (λ (t : DeskTale). t.length) q.tells_it ∙ rw e)
