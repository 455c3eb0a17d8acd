-- Laws.
-- The parts of a frame: bits go in without a fault as long as there is space, and an EOD or end closes a complete part.
use Rattle.std.specs.Prelude.{ℕ, ◌+◌, ◌*◌, ◌%◌, ◌≤◌, ◌<◌, ◌≡◌, refl, Bool, true, false, cond, not, ◌&&◌, List, [], ◌∷◌, ◌++◌, map, eqb, ltb, length}
use Rattle.std.proofs.Common.{ap, ◌∙◌, append_assoc, arith, length-append, eqb-true, eq-eqb, ne_eqb, le-ltb}
use Rattle.std.proofs.lemmas.Bool.{eqb-false}
use Rattle.laws.specs.Tests.{never}
use Rattle.checkbyte.specs.Register.{with_check, Bytes}
use Rattle.frame.specs.Signs.{Sign, wrong, sof, bit, shut, is_eod, shuts}
use Rattle.frame.specs.Bits.{bytes, bits_of}
use Rattle.frame.specs.Standing.{plain, checked, Standing, at_sof, in_main, at_normalization, in_response, with_bits, counted, moved}
use Rattle.frame.specs.Faults.{facts, part_bytes, checks_out, whole, fault}
use Rattle.frame.proofs.WidthLaws.{with_check_length}
use Rattle.frame.proofs.FaultLaws.{no_fault_is}
use Rattle.frame.proofs.ByteLaws.{bytes_few_law, bytes_back, bits_length, with_checks, with_bytes}
use Rattle.frame.proofs.Passing.{Passes, stay, pass, Closes, close, on}
use Rattle.frame.specs.ReadStated.{Complete, ChecksRight}

-- ## What closes a part

-- A test that fails makes both fail.
pub and_false : (b : Bool) → (b && false) ≡ false
and_false true = refl
and_false false = refl

-- the fault of an EOD or end, by the standing with the bit that it completes: rules 16, 17, 18 and 19 alone are judged of it
abbrev pub shutting : Standing → (eod : Bool) → ℕ
shutting st eod =
    cond (not (whole (facts st).part)) 16
    (cond (ltb (length (part_bytes st)) (facts st).fewest) 17
    (cond ((facts st).has_check && not (checks_out (part_bytes st))) 18
    (cond (eod && (facts st).responding) 19 0)))

-- So the fault of what shuts a part is.
pub shut_fault : (limit : ℕ) (st : Standing) (s : Sign) → shuts s ≡ true → fault limit st s ≡ shutting (counted st s) (is_eod s)
unfolding fault
shut_fault limit st (wrong n) e = never e refl
shut_fault limit st sof e = never e refl
shut_fault limit st (bit b) e = never e refl
shut_fault limit st (shut true) e = rw (and_false (facts st).sof_place, and_false (not (facts st).sof_place))
shut_fault limit st (shut false) e = rw (and_false (facts st).sof_place, and_false (not (facts st).sof_place))

-- An EOD or end after a complete part with the right check is at no fault, but for an EOD after a response.
pub shut_fine : (st : Standing) (eod : Bool) → Complete st → ChecksRight st → (eod && (facts st).responding) ≡ false → shutting st eod ≡ 0
shut_fine st eod c k r =
    rw (eq-eqb (length (facts st).part % 8) 0 c.whole_bytes, le-ltb (length (part_bytes st)) (facts st).fewest c.enough, k, r)

passes_checks : (h c : Bool) → ¬ ((h ≡ true) × (¬ (c ≡ true))) → (h && not c) ≡ false
passes_checks true true n = refl
passes_checks true false n = absurd (n (refl, λ e. never e refl))
passes_checks false c n = refl

-- two numbers that are not unequal are equal
stable_equal : (a b : ℕ) → ¬ ¬ (a ≡ b) → a ≡ b
stable_equal a b h = go (eqb a b) refl
  where
    go : (t : Bool) → eqb a b ≡ t → a ≡ b
    go true e = eqb-true a b e
    go false e = absurd (h (eqb-false a b e))

-- The other way: a part after which an EOD or end is at no fault is complete, and its check is right.
pub shut_complete : (limit : ℕ) (st : Standing) (s : Sign) → shuts s ≡ true → fault limit st s ≡ 0 → Complete (counted st s) × ChecksRight (counted st s)
shut_complete limit st s e f =
    let rest = ((no_fault_is limit st s).0 f).1.1.1 in
    let enough : ¬ (length (part_bytes (counted st s)) < (facts (counted st s)).fewest) = λ x. rest.1.0 (e, x) in (
      record { whole_bytes = stable_equal (length (facts (counted st s)).part % 8) 0 (λ n. rest.0 (e, n)); enough = omega arith },
      passes_checks (facts (counted st s)).has_check (checks_out (part_bytes (counted st s))) (λ n. rest.1.1.0 (e, n)),
    )

-- Bytes with their check byte are a complete part, in any part that has one ..
pub sealed_complete : (bs : List ℕ) (st : Standing) → Bytes bs → 1 ≤ length bs → (facts st).part ≡ bits_of (with_check bs) → (facts st).fewest ≤ 2 → Complete st
sealed_complete bs st b h p f =
    let n : length (with_check bs) ≡ length bs + 1 = with_check_length bs in
    let back : bytes (bits_of (with_check bs)) ≡ with_check bs = bytes_back (with_check bs) (with_bytes bs b) in
    record { whole_bytes = rw p (omega (arith, bits_length (with_check bs))); enough = rw (p, back) (omega arith) }

-- .. and their check is right.
pub sealed_right : (bs : List ℕ) (st : Standing) → Bytes bs → (facts st).part ≡ bits_of (with_check bs) → ChecksRight st
sealed_right bs st b p =
    let back : bytes (bits_of (with_check bs)) ≡ with_check bs = bytes_back (with_check bs) (with_bytes bs b) in
    rw (p, back, with_checks bs) (and_false (facts st).has_check)

-- Bytes alone are a complete plain response.
pub plain_complete : (main : List Bool) (bs : List ℕ) → Bytes bs → 1 ≤ length bs → Complete (in_response plain main (bits_of bs))
plain_complete main bs b h = record { whole_bytes = omega (arith, bits_length bs); enough = rw (bytes_back bs b) h }

-- ## Bits

-- how many bits a frame has before a place
abbrev pub held : Standing → ℕ
held at_sof = 0
held (in_main m) = length m
held (at_normalization m) = length m
held (in_response k m r) = length m + length r

-- the place is after the SOF
abbrev pub inside : Standing → Bool
inside at_sof = false
inside (in_main m) = true
inside (at_normalization m) = true
inside (in_response k m r) = true

with_more : (st : Standing) (b : Bool) (bits : List Bool) → with_bits (with_bits st (b ∷ [])) bits ≡ with_bits st (b ∷ bits)
with_more at_sof b bits = refl
with_more (in_main m) b bits = ap in_main (append_assoc m (b ∷ []) bits)
with_more (at_normalization m) b bits = refl
with_more (in_response k m r) b bits = ap (in_response k m) (append_assoc r (b ∷ []) bits)

inside_more : (st : Standing) (b : Bool) → inside st ≡ true → inside (with_bits st (b ∷ [])) ≡ true
inside_more at_sof b e = e
inside_more (in_main m) b e = refl
inside_more (at_normalization m) b e = refl
inside_more (in_response k m r) b e = refl

moved_bit : (st : Standing) (b : Bool) → inside st ≡ true → moved st (bit b) ≡ with_bits st (b ∷ [])
moved_bit at_sof b e = never e refl
moved_bit (in_main m) b e = refl
moved_bit (at_normalization m) b e = refl
moved_bit (in_response k m r) b e = refl

not_full : (limit : ℕ) (m r : List Bool) → length m + length r < 8 * limit → eqb (length (bytes m ++ bytes r)) limit ≡ false
not_full limit m r h =
    ne_eqb (length (bytes m ++ bytes r)) limit (λ e. omega (arith, bytes_few_law m, bytes_few_law r, length-append (bytes m) (bytes r)))

-- A bit is at no fault where there is space for it: a byte has eight.
bit_fine : (limit : ℕ) (st : Standing) (b : Bool) → inside st ≡ true → held (with_bits st (b ∷ [])) ≤ 8 * limit → fault limit st (bit b) ≡ 0
unfolding fault bytes
bit_fine limit at_sof b e h = never e refl
bit_fine limit (in_main m) b e h = rw (not_full limit m [] (omega (arith, length-append m (b ∷ []))))
bit_fine limit (at_normalization m) b e h = refl
bit_fine limit (in_response plain m r) b e h = rw (not_full limit m r (omega (arith, length-append r (b ∷ []))))
bit_fine limit (in_response checked m r) b e h = rw (not_full limit m r (omega (arith, length-append r (b ∷ []))))

held_less : (st : Standing) (b : Bool) (bits : List Bool) → held (with_bits st (b ∷ [])) ≤ held (with_bits (with_bits st (b ∷ [])) bits)
held_less at_sof b bits = omega arith
held_less (in_main m) b bits = omega (arith, length-append (m ++ (b ∷ [])) bits)
held_less (at_normalization m) b bits = omega arith
held_less (in_response k m r) b bits = omega (arith, length-append (r ++ (b ∷ [])) bits)

-- ## A part

-- The signs carry these bits and shut the part, by an EOD or by an end.
pub data Part (eod : Bool) : List Bool → List Sign → Type 0 where
  shut_apart : Part eod [] (shut eod ∷ [])
  one_bit : {bits : List Bool} {ss : List Sign} (b : Bool) → Part eod bits ss → Part eod (b ∷ bits) (bit b ∷ ss)

-- Bits, and what shuts them, are such a part.
pub spells : (eod : Bool) (bits : List Bool) → Part eod bits (map bit bits ++ (shut eod ∷ []))
spells eod [] = shut_apart
spells eod (b ∷ bits) = one_bit b (spells eod bits)

-- The signs of a part that an end shuts close the frame, with the part's bits.
pub part_closes : {limit : ℕ} {bits : List Bool} {ss : List Sign} → Part false bits ss → (st : Standing) → inside st ≡ true
    → held (with_bits st bits) ≤ 8 * limit → Complete (with_bits st bits) → ChecksRight (with_bits st bits) → Closes limit st ss (with_bits st bits)
part_closes {limit} shut_apart st e h c k = close (shut_fault limit st (shut false) refl ∙ shut_fine (with_bits st []) false c k refl) refl
part_closes {limit} (one_bit {bits} {ss} b p) st e h c k =
    on {st' = with_bits st (b ∷ bits)} {ss = ss} (bit_fine limit st b e (omega (arith, h, held_less st b bits, ap held (with_more st b bits)))) refl
    (rw (moved_bit st b e, ← (with_more st b bits))
    (part_closes p (with_bits st (b ∷ [])) (inside_more st b e) (rw (with_more st b bits) h) (rw (with_more st b bits) c) (rw (with_more st b bits) k)))

-- Those of a main part that an EOD shuts lead to the normalization bit.
pub part_passes : {limit : ℕ} {bits : List Bool} {ss : List Sign} → Part true bits ss → (m : List Bool) → length (m ++ bits) ≤ 8 * limit
    → Complete (in_main (m ++ bits)) → ChecksRight (in_main (m ++ bits)) → Passes limit (in_main m) ss (at_normalization (m ++ bits))
part_passes {limit} shut_apart m h c k =
    pass {st' = at_normalization (m ++ [])} (shut_fault limit (in_main m) (shut true) refl ∙ shut_fine (in_main (m ++ [])) true c k refl) refl stay
part_passes {limit} (one_bit {bits} {ss} b p) m h c k =
    let less : length (m ++ (b ∷ [])) ≤ 8 * limit = omega (arith, h, length-append m (b ∷ bits), length-append m (b ∷ [])) in
    pass {st' = at_normalization (m ++ (b ∷ bits))} {ss = ss} (bit_fine limit (in_main m) b refl less) refl
    (rw (← (append_assoc m (b ∷ []) bits)) (part_passes p (m ++ (b ∷ [])) (rw (append_assoc m (b ∷ []) bits) h) (rw (append_assoc m (b ∷ []) bits) c) (rw (append_assoc m (b ∷ []) bits) k)))
