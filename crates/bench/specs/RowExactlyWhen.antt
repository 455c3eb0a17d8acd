-- Laws.
-- When loading, withdrawing and setting a clock are turned away: each refusal exactly when document 01 says so, with the row as
-- it was.
use Rattle.std.specs.Prelude.{ℕ, ◌<◌, ◌≡◌, List, length}
use Rattle.std.proofs.Common.{sym, ◌∙◌, arith, ne_eqb}
use Rattle.laws.specs.Rules.{FirstToHold, TurnedAway}
use Rattle.laws.specs.RuleLaws.{refuses}
use Rattle.symbol.specs.declared.Clock.{Clock}
use Rattle.bench.specs.declared.Station.{Station}
use Rattle.bench.specs.Calls.{Call, load, withdraw, set_clock, rules_for, number_of, taken, after}
use Rattle.bench.specs.Promise.{Called, called_number, LoadPromise, WithdrawPromise, ClockPromise}
use Rattle.bench.specs.Taken.{rules_apart}

-- A call that is turned away leaves the row as it was.
pub turned_away_law : (c : Call) (row : List Station) (n : ℕ) → 0 < n → number_of c row ≡ n → after c row ≡ row
unfolding after taken
turned_away_law c row n h e = rw (ne_eqb (number_of c row) 0 (λ z. omega arith))

-- Each refusal of a call comes exactly when its rule is the first of the call's rules to hold, and then the row is as it was.
refusal : (c : Call) (n : ℕ) → 0 < n → {answered : ℕ} {entry exit : List Station} → answered ≡ number_of c entry → exit ≡ after c entry
    → TurnedAway answered n (FirstToHold n (rules_for c entry)) (exit ≡ entry)
unfolding number_of
refusal c n h {entry = entry} a x = refuses n (rules_for c entry) h (rules_apart c (length entry) entry) a (λ q. x ∙ turned_away_law c entry n h (sym a ∙ q))

-- Loading: 38, 39, 40, 37 and 41, each exactly when.
pub load_exactly : {i : ℕ} {m : List ℕ} {entry exit : List Station} {a : Called} → LoadPromise i m entry exit a
    → (n : ℕ) → 0 < n → TurnedAway (called_number a) n (FirstToHold n (rules_for (load i m) entry)) (exit ≡ entry)
load_exactly {i} {m} p n h = refusal (load i m) n h p.answers_it p.leaves_it

-- Withdrawing: 38, 39, 40 and 42, each exactly when.
pub withdraw_exactly : {i : ℕ} {entry exit : List Station} {a : Called} → WithdrawPromise i entry exit a
    → (n : ℕ) → 0 < n → TurnedAway (called_number a) n (FirstToHold n (rules_for (withdraw i) entry)) (exit ≡ entry)
withdraw_exactly {i} p n h = refusal (withdraw i) n h p.answers_it p.leaves_it

-- Setting a clock: 38, 39, 40 and 36, each exactly when.
pub clock_exactly : {i : ℕ} {c : Clock} {entry exit : List Station} {a : Called} → ClockPromise i c entry exit a
    → (n : ℕ) → 0 < n → TurnedAway (called_number a) n (FirstToHold n (rules_for (set_clock i c) entry)) (exit ≡ entry)
clock_exactly {i} {c} p n h = refusal (set_clock i c) n h p.answers_it p.leaves_it
