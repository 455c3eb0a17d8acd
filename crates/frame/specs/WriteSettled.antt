-- Laws.
-- Writing is settled: the promise of the call leaves one answer and one state of the lent words.
use Rattle.std.specs.Prelude.{ℕ, ◌≡◌, refl, cond, Result, Ok, Err, List, eqb}
use Rattle.std.proofs.Common.{sym, ap, ◌∙◌}
use Rattle.laws.specs.Settled.{settled}
use Rattle.symbol.specs.declared.Clock.{Clock}
use Rattle.frame.specs.declared.Response.{Response}
use Rattle.frame.specs.declared.WriteRefusal.{WriteRefusal}
use Rattle.frame.specs.declared.WriteRefusal.TheVariants.{BadClock, BadMessage, FewLentWords}
use Rattle.frame.specs.WritePromise.{Count, counted, WritePromise}

-- the answer back from what is told of it
abbrev answer_of : Count → Result ℕ WriteRefusal
answer_of t =
    cond (eqb t.number 0) (Ok t.count)
    (cond (eqb t.number 36) (Err BadClock)
    (cond (eqb t.number 37) (Err BadMessage) (Err FewLentWords)))

back : (r : Result ℕ WriteRefusal) → answer_of (counted r) ≡ r
back (Ok n) = refl
back (Err BadClock) = refl
back (Err BadMessage) = refl
back (Err FewLentWords) = refl

-- Two answers with the same number and count are the same answer.
pub counted_once : (r s : Result ℕ WriteRefusal) → counted r ≡ counted s → r ≡ s
counted_once r s e = sym (back r) ∙ ap answer_of e ∙ back s

-- No second answer, and no other state of the lent words, meets the promise of writing.
pub write_settled : {c : Clock} {main : List ℕ} {kind : Response} {rs entry exit exit' : List ℕ} {r s : Result ℕ WriteRefusal}
    → WritePromise c main kind rs entry exit r → WritePromise c main kind rs entry exit' s → (r ≡ s) × (exit ≡ exit')
write_settled {r} {s} a b = (counted_once r s (settled a.counts_it b.counts_it), settled a.lends_it b.lends_it)
