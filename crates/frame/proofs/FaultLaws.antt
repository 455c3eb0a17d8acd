-- Laws.
-- The fault of an interval is the number of the first rule that holds of it, and each has a name.
use Rattle.std.specs.Prelude.{ℕ, ◌≤◌, ◌<◌, ◌≡◌, refl, Bool, true, false, cond, not, ◌&&◌, ◌++◌, ◌↔◌, ◌⊎◌, eqb, length}
use Rattle.std.proofs.Common.{inl, inr, ⊎_elim, arith, eqb-true, ne_eqb}
use Rattle.std.proofs.lemmas.Bool.{eqb-false}
use Rattle.laws.specs.Rules.{first_rule, NoneHolds}
use Rattle.laws.specs.RuleLaws.{first_is, none_is}
use Rattle.symbol.specs.declared.Symbol.{Symbol}
use Rattle.symbol.specs.declared.Symbol.TheVariants.{Noise as NoiseWidth, Bit0, Bit1, Eod, Sof, Eof, Ifs, Break as BreakWidth, Stuck as StuckWidth}
use Rattle.frame.specs.declared.Fault.{Fault}
use Rattle.frame.specs.declared.Fault.TheVariants.{Noise, NoSof, Break, Stuck, LateSof, SplitByte, FewBytes, WrongCheck, EodAfterResponse, ThirteenthByte}
use Rattle.frame.specs.Signs.{Sign, wrong, sof, bit, wrong_of}
use Rattle.frame.specs.Line.{sign_of}
use Rattle.frame.specs.Standing.{Standing}
use Rattle.frame.specs.Faults.{facts, main_bytes, response_bytes, wrong_itself, bit_for_sof, sof_again, byte_split, bytes_few, check_wrong, eod_after_response, bit_past_limit, fault_rules, fault, FirstFault}
use Rattle.frame.specs.ReadPromise.{fault_number}

-- A fault's number is that of what is wrong by itself, and otherwise that of the first rule.
pub fault_first : (limit : ℕ) (st : Standing) (s : Sign) → fault limit st s ≡ cond (wrong_itself s).says (wrong_of s) (first_rule (fault_rules limit st s))
unfolding fault
fault_first limit st s = refl

module _ (limit : ℕ) (st : Standing) (s : Sign) where
  -- The fault of an interval is n exactly when it is wrong by itself with that number, or it is not and rule n holds of it and
  -- no rule that is judged before does.
  pub fault_is : (n : ℕ) → 0 < n → (fault limit st s ≡ n) ↔ FirstFault n limit st s
  fault_is n h = rw (fault_first limit st s) (go (eqb (wrong_of s) 0) refl)
    where
      go : (b : Bool) → eqb (wrong_of s) 0 ≡ b → (cond (not b) (wrong_of s) (first_rule (fault_rules limit st s)) ≡ n) ↔ FirstFault n limit st s
      go true e =
          let none : wrong_of s ≡ 0 = eqb-true (wrong_of s) 0 e in
          let law = first_is n (fault_rules limit st s) h refl in
          (λ f. inr (none, law.0 f), λ f. ⊎_elim (λ a. absurd (omega (arith, none, h))) (λ a. law.1 a.1) f)
      go false e = (λ f. inl f, λ f. ⊎_elim (λ a. a) (λ a. absurd (eqb-false (wrong_of s) 0 e a.0)) f)

  -- An interval is at no fault exactly when it is not wrong by itself and no rule holds of it.
  pub no_fault_is : (fault limit st s ≡ 0) ↔ ((wrong_of s ≡ 0) × NoneHolds (fault_rules limit st s))
  no_fault_is = rw (fault_first limit st s) (go (eqb (wrong_of s) 0) refl)
    where
      go : (b : Bool) → eqb (wrong_of s) 0 ≡ b → (cond (not b) (wrong_of s) (first_rule (fault_rules limit st s)) ≡ 0) ↔ ((wrong_of s ≡ 0) × NoneHolds (fault_rules limit st s))
      go true e =
          let law = none_is (fault_rules limit st s) refl in
          (λ f. (eqb-true (wrong_of s) 0 e, law.0 f), λ f. law.1 f.1)
      go false e = (λ f. absurd (eqb-false (wrong_of s) 0 e f), λ f. absurd (eqb-false (wrong_of s) 0 e f.0))

-- ## By what is shown

-- The fault of a bit: at the SOF's place 12, and past the last byte that a frame may have 20.
pub bit_fault : (limit : ℕ) (st : Standing) (b : Bool)
    → fault limit st (bit b) ≡ cond (facts st).sof_place 12 (cond ((facts st).in_part && eqb (length (main_bytes st ++ response_bytes st)) limit) 20 0)
unfolding fault
bit_fault limit st b = go (facts st).sof_place ((facts st).in_part && eqb (length (main_bytes st ++ response_bytes st)) limit)
  where
    go : (p q : Bool) → ◌≡◌ {A = ℕ} (cond (p && true) 12 (cond (not p && false) 15 (cond q 20 0))) (cond p 12 (cond q 20 0))
    go true q = refl
    go false q = refl

-- The fault of a SOF: none at its own place, and 15 elsewhere.
pub sof_fault : (limit : ℕ) (st : Standing) → fault limit st sof ≡ cond (facts st).sof_place 0 15
unfolding fault
sof_fault limit st = go (facts st).sof_place
  where
    go : (p : Bool) → ◌≡◌ {A = ℕ} (cond (p && false) 12 (cond (not p && true) 15 0)) (cond p 0 15)
    go true = refl
    go false = refl

-- The fault of what is wrong by itself.
pub wrong_fault : (limit : ℕ) (st : Standing) (n : ℕ) → 0 < n → fault limit st (wrong n) ≡ n
unfolding fault
wrong_fault limit st n h = rw (ne_eqb n 0 (λ e. omega arith))

-- ## Each fault has a name

-- the fault of the number n
pub record Named (n : ℕ) : Type 0 where
  pub fault_is : Fault
  pub number_is : fault_number fault_is ≡ n

-- Faults are numbered from 11 to 20.
pub named_range : (n : ℕ) → Named n → (10 < n) × (n ≤ 20)
named_range n named = rw (← named.number_is) (go named.fault_is)
  where
    go : (f : Fault) → (10 < fault_number f) × (fault_number f ≤ 20)
    go Noise = (omega arith, omega arith)
    go NoSof = (omega arith, omega arith)
    go Break = (omega arith, omega arith)
    go Stuck = (omega arith, omega arith)
    go LateSof = (omega arith, omega arith)
    go SplitByte = (omega arith, omega arith)
    go FewBytes = (omega arith, omega arith)
    go WrongCheck = (omega arith, omega arith)
    go EodAfterResponse = (omega arith, omega arith)
    go ThirteenthByte = (omega arith, omega arith)

-- So no other number is a fault's.
pub other_number : (f : Fault) (n : ℕ) → (n ≤ 10) ⊎ (20 < n) → eqb (fault_number f) n ≡ false
other_number f n h =
    let range = named_range (fault_number f) (record { fault_is = f; number_is = refl }) in
    ne_eqb (fault_number f) n (λ e. ⊎_elim (λ low. omega (arith, range.0, e, low)) (λ high. omega (arith, range.1, e, high)) h)

-- What a symbol shows as wrong by itself has a name ..
pub wrong_named : (s : Symbol) → 0 < wrong_of (sign_of s) → Named (wrong_of (sign_of s))
wrong_named NoiseWidth h = record { fault_is = Noise; number_is = refl }
wrong_named Bit0 h = absurd (omega (arith, h))
wrong_named Bit1 h = absurd (omega (arith, h))
wrong_named Eod h = absurd (omega (arith, h))
wrong_named Sof h = absurd (omega (arith, h))
wrong_named Eof h = absurd (omega (arith, h))
wrong_named Ifs h = absurd (omega (arith, h))
wrong_named BreakWidth h = record { fault_is = Break; number_is = refl }
wrong_named StuckWidth h = record { fault_is = Stuck; number_is = refl }

-- .. and so has every fault, where that is so of what is wrong by itself.
pub fault_named : (limit : ℕ) (st : Standing) (s : Sign) → (0 < wrong_of s → Named (wrong_of s)) → 0 < fault limit st s → Named (fault limit st s)
fault_named limit st s itself some = rw (fault_first limit st s) (go (eqb (wrong_of s) 0) refl (rw (fault_first limit st s) at some))
  where
    by : (a b c d e f g : Bool) → 0 < cond a 12 (cond b 15 (cond c 16 (cond d 17 (cond e 18 (cond f 19 (cond g 20 0))))))
        → Named (cond a 12 (cond b 15 (cond c 16 (cond d 17 (cond e 18 (cond f 19 (cond g 20 0)))))))
    by true b c d e f g h = record { fault_is = NoSof; number_is = refl }
    by false true c d e f g h = record { fault_is = LateSof; number_is = refl }
    by false false true d e f g h = record { fault_is = SplitByte; number_is = refl }
    by false false false true e f g h = record { fault_is = FewBytes; number_is = refl }
    by false false false false true f g h = record { fault_is = WrongCheck; number_is = refl }
    by false false false false false true g h = record { fault_is = EodAfterResponse; number_is = refl }
    by false false false false false false true h = record { fault_is = ThirteenthByte; number_is = refl }
    by false false false false false false false h = absurd (omega arith)

    go : (b : Bool) → eqb (wrong_of s) 0 ≡ b → 0 < cond (not b) (wrong_of s) (first_rule (fault_rules limit st s))
        → Named (cond (not b) (wrong_of s) (first_rule (fault_rules limit st s)))
    go true e h =
        by (bit_for_sof limit st s).says (sof_again limit st s).says (byte_split limit st s).says (bytes_few limit st s).says (check_wrong limit st s).says (eod_after_response limit st s).says (bit_past_limit limit st s).says h
    go false e h = itself h
