-- Laws.
-- The register tells a right check byte from every wrong one.
use Rattle.std.specs.Prelude.{◌≡◌, Bool, cond, List, [], ◌∷◌, ◌++◌, ℕ, ◌+◌, ◌-◌, ◌/◌, ◌%◌, ◌<◌, eqb}
use Rattle.std.proofs.Common.{sym, ap, ◌∙◌, arith, eqb→eq}
use Rattle.std.specs.Int.Bits.{bit_xor}
use Rattle.std.proofs.lemmas.Nat.{xor_lt}
use Rattle.laws.specs.Each.{each}
use Rattle.checkbyte.specs.Register.{eight_shifts, step_of, register_from, register_of, check_of, all_ones, residue, polynomial}
use Rattle.checkbyte.specs.Residue.{register_lt, register_append, inverse}
use Rattle.checkbyte.specs.Xor.{xor_same}

-- A shift undone: a register that has come out odd had the polynomial added to it.
back : ℕ → ℕ
back r = cond (eqb (r % 2) 1) (bit_xor r polynomial / 2 + 128) (r / 2)

eight_back : ℕ → ℕ
unfolding back
eight_back r = back (back (back (back (back (back (back (back r)))))))

back_test : ℕ → Bool
back_test r = eqb (eight_back (eight_shifts r)) r

-- undone at all 256 registers, by computation
eight_back_law : (r : ℕ) → r < 256 → eight_back (eight_shifts r) ≡ r
unfolding back_test eight_back eight_shifts
eight_back_law r h = eqb→eq (eight_back (eight_shifts r)) r (each 256 back_test tt r h)

eight_same : (r s : ℕ) → r < 256 → s < 256 → eight_shifts r ≡ eight_shifts s → r ≡ s
eight_same r s hr hs e = sym (eight_back_law r hr) ∙ ap eight_back e ∙ eight_back_law s hs

-- Two bytes that make one register equal are equal.
step_same_byte : (r b c : ℕ) → r < 256 → b < 256 → c < 256 → step_of r b ≡ step_of r c → b ≡ c
unfolding step_of
step_same_byte r b c hr hb hc e =
    xor_same 8 r b c hb hc (eight_same (bit_xor r b) (bit_xor r c) (xor_lt 8 r b hr hb) (xor_lt 8 r c hr hc) e)

-- The register ends at 0xC4 over no other last byte.
pub residue_only : (bs : List ℕ) (c : ℕ) → c < 256 → register_of (bs ++ (c ∷ [])) ≡ residue → c ≡ check_of bs
unfolding check_of register_from
residue_only bs c hc e =
    let small : register_of bs < 256 = register_lt all_ones bs (omega arith) in
    step_same_byte (register_of bs) c (all_ones - register_of bs) small hc (omega arith)
    (sym (register_append all_ones bs (c ∷ [])) ∙ e ∙ sym (inverse (register_of bs) small))
