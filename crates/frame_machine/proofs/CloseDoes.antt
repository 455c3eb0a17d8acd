-- Laws.
-- An EOD or an end, in each standing: the machine's tests are document 01's rows 16, 17, 18 and 19, in their order.
use Rattle.std.specs.Prelude.{ℕ, ◌+◌, ◌≡◌, refl, Bool, true, false, cond, not, ◌&&◌, List, ◌++◌, eqb, ltb, length}
use Rattle.std.proofs.Common.{ap, ◌∙◌, append-nil, arith, length-append, lt-ltb, le-ltb, ltb-true, ltb-false}
use Rattle.checkbyte.specs.Register.{register_of, register_from, residue}
use Rattle.frame.specs.declared.Fault.TheVariants.{SplitByte, FewBytes, WrongCheck, EodAfterResponse}
use Rattle.frame.specs.Signs.{shut, shuts}
use Rattle.frame.specs.Bits.{bytes}
use Rattle.frame.proofs.BitLaws.{bytes_none, left_over_none, left_none}
use Rattle.frame.specs.Standing.{plain, checked, Standing, at_sof, in_main, at_normalization, in_response}
use Rattle.frame.specs.Faults.{facts, part_bytes, checks_out, whole, fault}
use Rattle.frame.proofs.StandingLaws.{counted_shut}
use Rattle.frame.proofs.Parts.{shutting, shut_fault}
use Rattle.frame_machine.specs.declared.Stepped.{Stepped}
use Rattle.frame_machine.specs.Steps.{faulty, closing, needed_of, eod_of, close_of}
use Rattle.frame_machine.specs.Holding.{phase_of, earlier, so_far, holding}
use Rattle.frame_machine.specs.HoldingLaws.{parts}
use Rattle.frame_machine.specs.ResidueLaws.{checks_residue}
use Rattle.frame_machine.specs.Does.{Does, faults, closes, goes}

-- ## The rows of the paper that an EOD or an end can meet

shuts_part : (eod : Bool) → shuts (shut eod) ≡ true
shuts_part true = refl
shuts_part false = refl

-- 16, 17, 18 and 19, of the standing itself: it completes no bit
shut_rows : (limit : ℕ) (st : Standing) (eod : Bool) → fault limit st (shut eod) ≡ shutting st eod
shut_rows limit st eod = shut_fault limit st (shut eod) (shuts_part eod) ∙ ap (λ (x : Standing). shutting x eod) (counted_shut st eod)

-- ## The machine's tests are those rows

past : (a b : List ℕ) (k : ℕ) → ltb (length (a ++ b)) (length a + k) ≡ ltb (length b) k
past a b k = go (ltb (length b) k) refl
  where
    go : (t : Bool) → ltb (length b) k ≡ t → ltb (length (a ++ b)) (length a + k) ≡ t
    go true e = lt-ltb (length (a ++ b)) (length a + k) (rw (length-append a b) (omega (arith, ltb-true (length b) k e)))
    go false e = le-ltb (length (a ++ b)) (length a + k) (rw (length-append a b) (omega (arith, ltb-false (length b) k e)))

fewest_of : (st : Standing) → (needed_of (phase_of st)).fewest ≡ (facts st).fewest
fewest_of at_sof = refl
fewest_of (in_main m) = refl
fewest_of (at_normalization m) = refl
fewest_of (in_response plain m r) = refl
fewest_of (in_response checked m r) = refl

few_of : (st : Standing) → ltb (length (so_far st)) (length (earlier st) + (needed_of (phase_of st)).fewest) ≡ ltb (length (part_bytes st)) (facts st).fewest
few_of st = rw (parts st, fewest_of st) (past (earlier st) (part_bytes st) (facts st).fewest)

-- the check byte is judged where there are bytes enough
wrong_of_law : (st : Standing) → ltb (length (part_bytes st)) (facts st).fewest ≡ false
    → ((needed_of (phase_of st)).checked && not (eqb (register_of (part_bytes st)) residue)) ≡ ((facts st).has_check && not (checks_out (part_bytes st)))
wrong_of_law at_sof h = refl
wrong_of_law (in_main m) h = rw (checks_residue m (omega (arith, ltb-false (length (bytes m)) 2 h)))
wrong_of_law (at_normalization m) h = refl
wrong_of_law (in_response plain m r) h = refl
wrong_of_law (in_response checked m r) h = rw (checks_residue r (omega (arith, ltb-false (length (bytes r)) 2 h)))

-- what the tests come to, where the bytes are enough or not
abbrev judged : Standing → Bool → Stepped
judged st eod =
    cond (not (whole (facts st).part)) (faulty (holding st) SplitByte)
    (cond (ltb (length (part_bytes st)) (facts st).fewest) (faulty (holding st) FewBytes)
    (cond ((needed_of (phase_of st)).checked && not (eqb (register_of (part_bytes st)) residue)) (faulty (holding st) WrongCheck)
    (cond eod (eod_of (holding st)) (closing (holding st)))))

close_judged : (st : Standing) (eod : Bool) → close_of (holding st) eod ≡ judged st eod
unfolding close_of holding
close_judged st eod = rw (left_none (facts st).part, few_of st)

-- ## From every standing

-- where no row but the last can hold, and nothing stands in the way of what comes after
shut_does : (limit : ℕ) (st : Standing) (eod : Bool)
    → (fault limit st (shut eod) ≡ cond (eod && (facts st).responding) 19 0 → Does limit st (shut eod) (cond eod (eod_of (holding st)) (closing (holding st))))
    → Does limit st (shut eod) (close_of (holding st) eod)
shut_does limit st eod on =
    rw (close_judged st eod)
    (go (whole (facts st).part) (ltb (length (part_bytes st)) (facts st).fewest) ((facts st).has_check && not (checks_out (part_bytes st))) refl refl refl)
  where
    go : (A B C : Bool) → whole (facts st).part ≡ A → ltb (length (part_bytes st)) (facts st).fewest ≡ B
        → ((facts st).has_check && not (checks_out (part_bytes st))) ≡ C → Does limit st (shut eod) (judged st eod)
    go false B C p q r = faults SplitByte (shut_rows limit st eod ∙ rw p) (rw p)
    go true true C p q r = faults FewBytes (shut_rows limit st eod ∙ rw (p, q)) (rw (p, q))
    go true false true p q r = faults WrongCheck (shut_rows limit st eod ∙ rw (p, q, r)) (rw (p, q, wrong_of_law st q, r))
    go true false false p q r = rw (p, q, wrong_of_law st q, r) (on (shut_rows limit st eod ∙ rw (p, q, r)))

-- An end closes the frame.
pub end_does : (limit : ℕ) (st : Standing) → Does limit st (shut false) (close_of (holding st) false)
end_does limit st = shut_does limit st false (λ f. closes f refl refl (counted_shut st false))

-- An EOD goes on to the response, or is at fault after one.
after_eod : (limit : ℕ) (st : Standing) → fault limit st (shut true) ≡ cond (facts st).responding 19 0 → Does limit st (shut true) (eod_of (holding st))
unfolding holding register_from
after_eod limit at_sof f = goes f refl (rw (left_over_none, bytes_none)) refl
after_eod limit (in_main m) f = goes f refl (rw (left_over_none, bytes_none, append-nil m, append-nil (bytes m))) (rw (append-nil m))
after_eod limit (at_normalization m) f = goes f refl (rw (left_over_none, bytes_none, append-nil (bytes m))) refl
after_eod limit (in_response plain m r) f = faults EodAfterResponse f refl
after_eod limit (in_response checked m r) f = faults EodAfterResponse f refl

-- An EOD, from every standing.
pub eod_does : (limit : ℕ) (st : Standing) → Does limit st (shut true) (close_of (holding st) true)
eod_does limit st = shut_does limit st true (after_eod limit st)
