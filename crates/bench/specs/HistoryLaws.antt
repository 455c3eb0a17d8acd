-- Laws.
-- In a history whose calls keep their promises, the answers tell what was taken, and the rows are those of the definitions; and
-- what L counts.
use Rattle.std.specs.Prelude.{ℕ, ◌+◌, ◌≡◌, refl, Bool, true, false, cond, ◌&&◌, List, eqb, length}
use Rattle.std.proofs.Common.{sym, ap, ◌∙◌, arith, eqb-true, eq-eqb}
use Rattle.bench.specs.declared.Station.{Station}
use Rattle.bench.specs.Calls.{number_of, taken, after}
use Rattle.bench.specs.Promise.{RoundSaid, called_number}
use Rattle.bench.specs.Histories.{CallMade, loads, withdraws, sets_clock, plays, call_of, Keeps, answered, accepted, loads_seen}
use Rattle.bench.specs.Stations.{bits_sent}
use Rattle.bench.specs.Order.{ahead}
use Rattle.bench.specs.WaitStated.{LoadAhead, is_load, Picks, none, picked, passed}
use Rattle.bench.specs.RoundExactlyWhen.{says_number, said_number}

answer_tells : (e : CallMade) (entry exit : List Station) → Keeps e entry exit → answered e ≡ number_of (call_of e) entry
answer_tells (loads i m a) entry exit k = k.answers_it
answer_tells (withdraws i a) entry exit k = k.answers_it
answer_tells (sets_clock i c a) entry exit k = k.answers_it
answer_tells (plays lent_entry lent_exit a) entry exit k = sym (said_number a) ∙ ap (λ (r : RoundSaid). r.number) k.says_it ∙ says_number entry lent_entry

-- A call is accepted exactly where the rules take it.
pub accepted_taken : (e : CallMade) (entry exit : List Station) → Keeps e entry exit → accepted e ≡ taken (call_of e) entry
unfolding taken
accepted_taken e entry exit k = ap (λ (n : ℕ). eqb n 0) (answer_tells e entry exit k)

-- The row after a call is the one that the definitions give.
pub row_after : (e : CallMade) (entry exit : List Station) → Keeps e entry exit → exit ≡ after (call_of e) entry
row_after (loads i m a) entry exit k = k.leaves_it
row_after (withdraws i a) entry exit k = k.leaves_it
row_after (sets_clock i c a) entry exit k = k.leaves_it
row_after (plays lent_entry lent_exit a) entry exit k = k.leaves_it

-- "the loadings ahead of it accepted since": the length of the list that has each of them and nothing else.
pub counts_loads : (x : List ℕ) {events those : List CallMade} → Picks (LoadAhead x) events those → loads_seen x events ≡ length those
unfolding loads_seen
counts_loads x none = refl
counts_loads x (picked (is_load {a = a} p q) h) = rw (eq-eqb (called_number a) 0 p, q) (omega (arith, counts_loads x h))
counts_loads x (passed {e = loads i m a} {events} n h) = go (eqb (called_number a) 0) (ahead (bits_sent m) (bits_sent x)) refl refl ∙ counts_loads x h
  where
    go : (b c : Bool) → eqb (called_number a) 0 ≡ b → ahead (bits_sent m) (bits_sent x) ≡ c → cond (b && c) 1 0 + loads_seen x events ≡ loads_seen x events
    go true true p q = absurd (n (is_load (eqb-true (called_number a) 0 p) q))
    go true false p q = omega arith
    go false c p q = omega arith
counts_loads x (passed {e = withdraws i a} n h) = omega (arith, counts_loads x h)
counts_loads x (passed {e = sets_clock i c a} n h) = omega (arith, counts_loads x h)
counts_loads x (passed {e = plays lent lent_exit a} n h) = omega (arith, counts_loads x h)
