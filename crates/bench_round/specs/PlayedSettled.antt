-- Laws.
-- A round on a row by value is settled: its promise leaves one answer, one held row and one state of the lent words, and each
-- refusal comes exactly when its rule holds, with the held row and the words as they were.
use Rattle.std.specs.Prelude.{ℕ, ◌<◌, ◌≡◌, refl, false, List, Result, Ok, Err, eqb}
use Rattle.std.proofs.Common.{sym, ap, ◌∙◌, arith, eq-eqb}
use Rattle.laws.specs.Settled.{settled}
use Rattle.laws.specs.Tests.{never}
use Rattle.laws.specs.Rules.{FirstToHold, TurnedAway}
use Rattle.laws.specs.RuleLaws.{refuses}
use Rattle.bench.specs.declared.RoundRefusal.{RoundRefusal}
use Rattle.bench.specs.Calls.{round, rules_on}
use Rattle.bench.specs.Promise.{RoundTold, told_number, said, turned_away}
use Rattle.bench.specs.RoundSettled.{said_once}
use Rattle.bench_row.specs.declared.HeldRow.{HeldRow}
use Rattle.bench_round.specs.declared.Played.{Played}
use Rattle.bench_round.specs.Rounds.{round_number, number_on, PlayedBy, told_in, held_after}

-- ## One answer, one held row, one state of the words

-- No refusal has the number 0.
pub some_number : (e : RoundRefusal) → eqb (told_number (Err e)) 0 ≡ false
some_number RoundRefusal.RowSize = refl
some_number RoundRefusal.UnsoundStation = refl
some_number RoundRefusal.FewLentWords = refl
some_number RoundRefusal.NobodyWaiting = refl

not_both : {A : Type 0} (n : ℕ) (e : RoundRefusal) → n ≡ 0 → told_number (Err e) ≡ n → A
not_both n e z p = never (eq-eqb (told_number (Err e)) 0 (p ∙ z)) (some_number e)

-- what a round comes to, of its held row and of what is told
abbrev came : HeldRow → RoundTold → Result Played RoundRefusal
came b (Ok a) = Ok (record { held = b; answer = a })
came b (Err e) = Err e

-- No second answer, no other held row and no other words meet the promise of a round by value.
pub played_settled : (b : HeldRow) (lent left left' : List ℕ) (r s : Result Played RoundRefusal) → PlayedBy b lent left r → PlayedBy b lent left' s → (r ≡ s) × (left ≡ left')
played_settled b lent left left' (Ok r) (Ok s) p q = (
  ap (λ (x : HeldRow). came x (Ok r.answer)) (settled p.leaves q.leaves)
      ∙ ap (came s.held) (said_once (Ok r.answer) (Ok s.answer) (settled p.says q.says)),
  settled p.lends q.lends,
)
played_settled b lent left left' (Ok r) (Err e) p q = not_both (number_on b lent) e p.passes q.0
played_settled b lent left left' (Err e) (Ok s) p q = not_both (number_on b lent) e q.passes p.0
played_settled b lent left left' (Err e) (Err f) p q = (
  ap (came b) (said_once (Err e) (Err f) (ap turned_away (settled p.0 q.0))),
  settled p.1 q.1,
)

-- ## The refusals

-- A round that is turned away says so and nothing else, and leaves the held row and the words as they were.
pub record AsItWas (n : ℕ) (b : HeldRow) (lent left : List ℕ) (r : Result Played RoundRefusal) : Type 0 where
  pub held : held_after b r ≡ b
  pub words : left ≡ lent
  pub answer : said (told_in r) ≡ turned_away n

module _ (b : HeldRow) (lent left : List ℕ) where
  its_number : (r : Result Played RoundRefusal) → PlayedBy b lent left r → told_number (told_in r) ≡ number_on b lent
  its_number (Ok r) p = sym p.passes
  its_number (Err e) p = p.0

  as_it_was : (n : ℕ) → 0 < n → (r : Result Played RoundRefusal) → PlayedBy b lent left r → told_number (told_in r) ≡ n → AsItWas n b lent left r
  as_it_was n h (Ok r) p q = absurd (omega arith)
  as_it_was n h (Err e) p q = record { held = refl; words = p.1; answer = ap turned_away q }

  -- A round: 38, 39, 32 and 42, each exactly when its rule is the first of the round's rules to hold, and then all is as it was.
  pub round_exactly : (r : Result Played RoundRefusal) → PlayedBy b lent left r → (n : ℕ) → 0 < n
      → TurnedAway (told_number (told_in r)) n (FirstToHold n (rules_on (round lent) b.count b.at)) (AsItWas n b lent left r)
  unfolding round_number
  round_exactly r p n h = refuses n (rules_on (round lent) b.count b.at) h refl (its_number r p) (as_it_was n h r p)
