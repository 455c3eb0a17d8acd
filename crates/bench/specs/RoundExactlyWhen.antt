-- Laws.
-- When a round is turned away: each refusal exactly when document 01 says so, with the row and the words as they were.
use Rattle.std.specs.Prelude.{ℕ, ◌<◌, ◌≡◌, Bool, true, cond, List, Ok, Err}
use Rattle.std.proofs.Math.Path.{refl}
use Rattle.std.proofs.Common.{sym, ap, ◌∙◌, arith}
use Rattle.std.proofs.Math.Bool.{false}
use Rattle.std.proofs.Math.Dec.{eqb}
use borrow.Author.Tests.{ne_eqb, eqb-true}
use Rattle.laws.specs.Rules.{FirstToHold, TurnedAway}
use Rattle.laws.specs.RuleLaws.{refuses}
use Rattle.bench.specs.declared.Station.{Station}
use Rattle.bench.specs.Round.{round_of}
use Rattle.bench.specs.Calls.{round, rules_for, number_of, taken, lent_after}
use Rattle.bench.specs.Promise.{RoundTold, told_number, RoundSaid, said, played, turned_away, round_says, RoundPromise}
use Rattle.bench.specs.RowExactlyWhen.{turned_away_law}
use Rattle.bench.specs.RoundStated.{AsItWas}

-- the number that a round says is the one that the rules give
pub says_number : (row : List Station) (lent : List ℕ) → (round_says row lent).number ≡ number_of (round lent) row
unfolding round_says taken
says_number row lent = go (eqb (number_of (round lent) row) 0) refl
  where
    go : (t : Bool) → eqb (number_of (round lent) row) 0 ≡ t
        → (cond t (played (round_of row)) (turned_away (number_of (round lent) row))).number ≡ number_of (round lent) row
    go true e = sym (eqb-true (number_of (round lent) row) 0 e)
    go false e = refl

-- and that is the one that the answer tells
pub said_number : (a : RoundTold) → (said a).number ≡ told_number a
said_number (Ok a) = refl
said_number (Err e) = refl

module _ {entry exit : List Station} {lent_entry lent_exit : List ℕ} {a : RoundTold} (p : RoundPromise entry exit lent_entry lent_exit a) where
  its_number : told_number a ≡ number_of (round lent_entry) entry
  its_number = sym (said_number a) ∙ ap (λ (r : RoundSaid). r.number) p.says_it ∙ says_number entry lent_entry

  as_it_was : (n : ℕ) → 0 < n → number_of (round lent_entry) entry ≡ n → AsItWas n entry exit lent_entry lent_exit a
  unfolding lent_after round_says taken
  as_it_was n h e =
      let z : eqb (number_of (round lent_entry) entry) 0 ≡ false = ne_eqb (number_of (round lent_entry) entry) 0 (λ q. omega arith) in
      record {
        row = p.leaves_it ∙ turned_away_law (round lent_entry) entry n h e;
        words = p.lends_it ∙ rw z;
        answer = p.says_it ∙ rw (z, e);
      }

  -- 38, 39, 32 and 42, each exactly when its rule is the first of the round's rules to hold, and then all is as it was.
  pub round_exactly : (n : ℕ) → 0 < n
      → TurnedAway (told_number a) n (FirstToHold n (rules_for (round lent_entry) entry)) (AsItWas n entry exit lent_entry lent_exit a)
  unfolding number_of
  round_exactly n h = refuses n (rules_for (round lent_entry) entry) h refl its_number (λ q. as_it_was n h (sym its_number ∙ q))
