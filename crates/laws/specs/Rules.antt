-- Definitions.
-- Rules by which a call is turned away, in the order in which they are judged: the number that the call answers is that of
-- the first rule that holds. Definitions only; `RuleLaws` has the laws.
use Rattle.std.specs.Prelude.{ℕ, ◌≡◌, cond, Bool, true, not, ◌&&◌, List, [], ◌∷◌, ◌↔◌, eqb}
use Rattle.laws.specs.Meant.{Test}

-- a rule: its number, and when it holds
pub record Rule : Type 1 where
  pub number : ℕ
  pub when : Test

-- the rule of a number
abbrev pub rule : ℕ → Test → Rule
rule n t = record { number = n; when = t }

-- the number of the first rule that holds, and 0 where none does
abbrev pub first_rule : List Rule → ℕ
first_rule [] = 0
first_rule (r ∷ rs) = cond r.when.says r.number (first_rule rs)

-- The rule of number n holds, and no rule before it does.
abbrev pub FirstToHold : ℕ → List Rule → Type 0
FirstToHold n [] = ⊥
FirstToHold n (r ∷ rs) = cond (eqb n r.number) r.when.Holds ((¬ r.when.Holds) × FirstToHold n rs)

-- No rule holds.
abbrev pub NoneHolds : List Rule → Type 0
NoneHolds [] = Unit {0}
NoneHolds (r ∷ rs) = (¬ r.when.Holds) × NoneHolds rs

-- A call is turned away with a number exactly when something is so, and then everything is as it was.
pub record TurnedAway {A : Type 0} (answered refusal : A) (When AsItWas : Type 0) : Type 0 where
  pub exactly : (answered ≡ refusal) ↔ When
  pub unchanged : When → AsItWas

-- no rule has the number n
abbrev pub without : ℕ → List Rule → Bool
without n [] = true
without n (r ∷ rs) = not (eqb n r.number) && without n rs

-- each rule has a number of its own
abbrev pub apart : List Rule → Bool
apart [] = true
apart (r ∷ rs) = without r.number rs && apart rs
