-- Laws.
-- The calls at a place of a row by value are settled: each promise leaves one answer and one held row, and each refusal comes
-- exactly when its rule holds, with the held row as it was.
use Rattle.std.specs.Prelude.{ℕ, ◌<◌, ◌≡◌, refl, Result, Ok, Err}
use Rattle.std.proofs.Common.{sym, ap, ◌∙◌, arith}
use Rattle.laws.specs.Settled.{settled}
use Rattle.laws.specs.Rules.{FirstToHold, TurnedAway}
use Rattle.laws.specs.RuleLaws.{refuses}
use Rattle.laws.specs.Tests.{never}
use Rattle.std.proofs.Common.{eq-eqb}
use Rattle.bench.specs.declared.CallRefusal.{CallRefusal}
use Rattle.bench.specs.Calls.{Call, rules_on}
use Rattle.bench.specs.Promise.{Called, called_number}
use Rattle.bench.specs.RowSettled.{called_once}
use Rattle.bench.specs.Taken.{rules_apart}
use Rattle.bench_row.specs.declared.HeldRow.{HeldRow}
use Rattle.bench_calls.specs.Changes.{ChangedBy, call_number, called_in, held_after}
use Rattle.bench_calls.specs.ChangeLaws.{some_number}

-- ## One answer, one held row

-- the refusal that is answered, if any
abbrev refused : Called → CallRefusal
refused (Ok x) = CallRefusal.RowSize
refused (Err e) = e

not_both : {A : Type 0} (n : ℕ) (e : CallRefusal) → n ≡ 0 → called_number (Err e) ≡ n → A
not_both n e z p = never (eq-eqb (called_number (Err e)) 0 (p ∙ z)) (some_number e)

-- No second answer, and no other held row, meets the promise of a call.
pub changed_settled : (n : ℕ) (next : HeldRow) (r s : Result HeldRow CallRefusal) → ChangedBy n next r → ChangedBy n next s → r ≡ s
changed_settled n next (Ok x) (Ok y) p q = ap (λ (b : HeldRow). let t : Result HeldRow CallRefusal = Ok b in t) (settled p.1 q.1)
changed_settled n next (Ok x) (Err e) p q = not_both n e p.0 q
changed_settled n next (Err e) (Ok x) p q = not_both n e q.0 p
changed_settled n next (Err e) (Err f) p q =
    ap (λ (c : Called). let t : Result HeldRow CallRefusal = Err (refused c) in t) (called_once (Err e) (Err f) (settled p q))

-- ## The refusals

-- Each refusal of a call comes exactly when its rule is the first of the call's rules to hold, and then the held row is as it was:
-- loading 38, 39, 40, 37 and 41, withdrawing 38, 39, 40 and 42, setting a clock 38, 39, 40 and 36.
pub exactly : (c : Call) (b next : HeldRow) (r : Result HeldRow CallRefusal) → ChangedBy (call_number c b) next r
    → (n : ℕ) → 0 < n → TurnedAway (called_number (called_in r)) n (FirstToHold n (rules_on c b.count b.at)) (held_after b r ≡ b)
exactly c b next r p n h = refuses n (rules_on c b.count b.at) h (rules_apart c b.count b.at) (says r p) (as_it_was r)
  where
    says : (r : Result HeldRow CallRefusal) → ChangedBy (call_number c b) next r → called_number (called_in r) ≡ call_number c b
    says (Ok x) p = sym p.0
    says (Err e) p = p

    as_it_was : (r : Result HeldRow CallRefusal) → called_number (called_in r) ≡ n → held_after b r ≡ b
    as_it_was (Ok x) q = absurd (omega arith)
    as_it_was (Err e) q = refl
