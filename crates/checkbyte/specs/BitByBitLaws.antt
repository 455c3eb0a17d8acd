-- Laws.
-- Bit by bit and byte by byte the check byte is the same.
use Rattle.std.specs.Prelude.{◌≡◌, refl, List, [], ◌∷◌, ℕ, zero, suc, ◌+◌, ◌*◌, ◌-◌, ◌/◌, ◌%◌, ◌^◌, ◌<◌, Bool, true, false, ◌&&◌, T, eqb}
use Rattle.std.proofs.Common.{sym, ap, ap₂, ◌∙◌, pow-suc, arith, eqb→eq, eqb-true}
use Rattle.laws.specs.Each.{each}
use Rattle.std.specs.Int.Bits.{bit_xor, differ, xor_step, xor_zero_r}
use Rattle.std.proofs.lemmas.Nat.{xor_comm, xor_lt, xor_block, xor_shr, xor_mod}
use Rattle.checkbyte.specs.Register.{shift, eight_shifts, step_of, register_from, check_of, all_ones, polynomial, Bytes}
use Rattle.checkbyte.specs.BitByBit.{high_first, bit_in, bits_in, register_bits, check_bits}
use Rattle.checkbyte.specs.Xor.{differ_lt}
use Rattle.checkbyte.specs.Residue.{register_lt}

-- ## Adding without carry

digit_assoc : (x y z : ℕ) → x < 2 → y < 2 → z < 2 → differ (differ x y) z ≡ differ x (differ y z)
digit_assoc zero y z hx hy hz = refl
digit_assoc (suc zero) zero z hx hy hz = refl
digit_assoc (suc zero) (suc zero) zero hx hy hz = refl
digit_assoc (suc zero) (suc zero) (suc zero) hx hy hz = refl
digit_assoc (suc zero) (suc zero) (suc (suc z)) hx hy hz = absurd (omega arith)
digit_assoc (suc zero) (suc (suc y)) z hx hy hz = absurd (omega arith)
digit_assoc (suc (suc x)) y z hx hy hz = absurd (omega arith)

-- In which order three numbers are added does not matter.
xor_assoc : (k a b c : ℕ) → a < 2 ^ k → b < 2 ^ k → c < 2 ^ k → bit_xor (bit_xor a b) c ≡ bit_xor a (bit_xor b c)
xor_assoc zero a b c ha hb hc =
    let p : a ≡ 0 = omega arith in
    let q : b ≡ 0 = omega arith in
    let r : c ≡ 0 = omega arith in
    rw (p, q, r) refl
xor_assoc (suc k) a b c ha hb hc =
    let ab : bit_xor a b ≡ bit_xor (a / 2) (b / 2) * 2 + differ (a % 2) (b % 2) = xor_step a b in
    let bc : bit_xor b c ≡ bit_xor (b / 2) (c / 2) * 2 + differ (b % 2) (c % 2) = xor_step b c in
    let sab : differ (a % 2) (b % 2) < 2 = differ_lt (a % 2) (b % 2) (omega arith) (omega arith) in
    let sbc : differ (b % 2) (c % 2) < 2 = differ_lt (b % 2) (c % 2) (omega arith) (omega arith) in
    let ab-half : bit_xor a b / 2 ≡ bit_xor (a / 2) (b / 2) = omega arith in
    let ab-low : bit_xor a b % 2 ≡ differ (a % 2) (b % 2) = omega arith in
    let bc-half : bit_xor b c / 2 ≡ bit_xor (b / 2) (c / 2) = omega arith in
    let bc-low : bit_xor b c % 2 ≡ differ (b % 2) (c % 2) = omega arith in
    let half = xor_assoc k (a / 2) (b / 2) (c / 2) (omega (arith, pow-suc 2 k)) (omega (arith, pow-suc 2 k)) (omega (arith, pow-suc 2 k)) in
    let low = digit_assoc (a % 2) (b % 2) (c % 2) (omega arith) (omega arith) (omega arith) in
    xor_step (bit_xor a b) c
    ∙ ap₂ (λ (x y : ℕ). bit_xor x (c / 2) * 2 + differ y (c % 2)) ab-half ab-low
    ∙ ap₂ (λ (x y : ℕ). x * 2 + y) half low
    ∙ sym (ap₂ (λ (x y : ℕ). bit_xor (a / 2) x * 2 + differ (a % 2) y) bc-half bc-low)
    ∙ sym (xor_step a (bit_xor b c))

-- ## One bit

digits : (x y : ℕ) → x < 2 → y < 2 → bit_xor x y ≡ (x + y) % 2
digits zero zero hx hy = refl
digits zero (suc zero) hx hy = refl
digits zero (suc (suc y)) hx hy = absurd (omega arith)
digits (suc zero) zero hx hy = refl
digits (suc zero) (suc zero) hx hy = refl
digits (suc zero) (suc (suc y)) hx hy = absurd (omega arith)
digits (suc (suc x)) y hx hy = absurd (omega arith)

-- what falls out at the top of two numbers added
top : (r b : ℕ) → r < 256 → b < 256 → bit_xor r b / 128 % 2 ≡ (r / 128 + b / 128) % 2
top r b hr hb =
    let e : bit_xor r b / 128 ≡ (r / 128 + b / 128) % 2 = xor_shr r b 7 ∙ digits (r / 128) (b / 128) (omega arith) (omega arith) in
    rw e (let m : (r / 128 + b / 128) % 2 % 2 ≡ (r / 128 + b / 128) % 2 = omega arith in m)

-- two numbers added and moved up one place
doubled : (r b : ℕ) → r < 256 → b < 256 → (bit_xor r b * 2) % 256 ≡ bit_xor ((r * 2) % 256) ((b * 2) % 256)
doubled r b hr hb =
    let low : bit_xor r b % 128 ≡ bit_xor (r % 128) (b % 128) = xor_mod r b 7 in
    let up : bit_xor ((r % 128) * 2 + 0) ((b % 128) * 2 + 0) ≡ bit_xor (r % 128) (b % 128) * 2 + 0 = xor_block 1 (r % 128) (b % 128) 0 0 (omega arith) (omega arith) in
    let p : (r * 2) % 256 ≡ (r % 128) * 2 + 0 = omega arith in
    let q : (b * 2) % 256 ≡ (b % 128) * 2 + 0 = omega arith in
    let s : (bit_xor r b * 2) % 256 ≡ (bit_xor r b % 128) * 2 + 0 = omega arith in
    s ∙ ap (λ (x : ℕ). x * 2 + 0) low ∙ sym up ∙ sym (ap₂ bit_xor p q)

-- A shift of the register with a byte in it is the byte's top bit coming in, and the rest of the byte moved up.
one_bit : (r b : ℕ) → r < 256 → b < 256 → shift (bit_xor r b) ≡ bit_xor (bit_in r (b / 128)) ((b * 2) % 256)
unfolding shift bit_in
one_bit r b hr hb =
    let R : ℕ = (r * 2) % 256 in
    let B : ℕ = (b * 2) % 256 in
    let P : ℕ = (r / 128 + b / 128) % 2 * polynomial in
    ap₂ (λ (x y : ℕ). bit_xor x (y * polynomial)) (doubled r b hr hb) (top r b hr hb)
    ∙ xor_assoc 8 R B P (omega arith) (omega arith) (omega arith)
    ∙ ap (bit_xor R) (xor_comm B P)
    ∙ sym (xor_assoc 8 R P B (omega arith) (omega arith) (omega arith))

bit_in_lt : (r bit : ℕ) → bit_in r bit < 256
unfolding bit_in
bit_in_lt r bit = xor_lt 8 ((r * 2) % 256) ((r / 128 + bit) % 2 * polynomial) (omega arith) (omega arith)

-- ## A byte

-- the register after n bits of a byte, the top one first ..
fed : ℕ → ℕ → ℕ → ℕ
fed zero r b = r
fed (suc n) r b = fed n (bit_in r (b / 128)) ((b * 2) % 256)

-- .. what is left of the byte, moved up n places ..
left : ℕ → ℕ → ℕ
left zero b = b
left (suc n) b = left n ((b * 2) % 256)

-- .. and n shifts
shifts : ℕ → ℕ → ℕ
shifts zero r = r
shifts (suc n) r = shifts n (shift r)

shifts_fed : (n r b : ℕ) → r < 256 → b < 256 → shifts n (bit_xor r b) ≡ bit_xor (fed n r b) (left n b)
unfolding shifts fed left
shifts_fed zero r b hr hb = refl
shifts_fed (suc n) r b hr hb =
    ap (shifts n) (one_bit r b hr hb) ∙ shifts_fed n (bit_in r (b / 128)) ((b * 2) % 256) (bit_in_lt r (b / 128)) (omega arith)

none_left : ℕ → Bool
none_left b = eqb (left 8 b) 0

-- after eight bits nothing of the byte is left: computed at all 256
left_none : (b : ℕ) → b < 256 → left 8 b ≡ 0
unfolding none_left left
left_none b h = eqb→eq (left 8 b) 0 (each 256 none_left tt b h)

-- the top bits of what is left are the byte's own, the high bit first
tops : ℕ → List ℕ
tops b = left 0 b / 128 ∷ left 1 b / 128 ∷ left 2 b / 128 ∷ left 3 b / 128 ∷ left 4 b / 128 ∷ left 5 b / 128 ∷ left 6 b / 128 ∷ left 7 b / 128 ∷ []

same : List ℕ → List ℕ → Bool
same [] [] = true
same [] (y ∷ ys) = false
same (x ∷ xs) [] = false
same (x ∷ xs) (y ∷ ys) = eqb x y && same xs ys

same_eq : (xs ys : List ℕ) → T (same xs ys) → xs ≡ ys
unfolding same
same_eq [] [] t = refl
same_eq [] (y ∷ ys) t = absurd t
same_eq (x ∷ xs) [] t = absurd t
same_eq (x ∷ xs) (y ∷ ys) t = go (eqb x y) refl t (same_eq xs ys)
  where
    go : (b : Bool) → eqb x y ≡ b → T (b && same xs ys) → (T (same xs ys) → xs ≡ ys) → x ∷ xs ≡ y ∷ ys
    go true e t ih = ap₂ (λ (z : ℕ) (zs : List ℕ). z ∷ zs) (eqb-true x y e) (ih t)
    go false e t ih = absurd t

tops_test : ℕ → Bool
tops_test b = same (tops b) (high_first b)

-- computed at all 256
tops_are : (b : ℕ) → b < 256 → tops b ≡ high_first b
unfolding tops_test tops left same
tops_are b h = same_eq (tops b) (high_first b) (each 256 tops_test tt b h)

fed_all : (r b : ℕ) → b < 256 → fed 8 r b ≡ bits_in r (high_first b)
unfolding fed bits_in tops left
fed_all r b h = ap (bits_in r) (tops_are b h)

-- A byte fed at once is its eight bits fed one by one, the high bit first.
pub byte_by_bits : (r b : ℕ) → r < 256 → b < 256 → step_of r b ≡ bits_in r (high_first b)
unfolding step_of eight_shifts shifts
byte_by_bits r b hr hb = shifts_fed 8 r b hr hb ∙ ap (bit_xor (fed 8 r b)) (left_none b hb) ∙ xor_zero_r (fed 8 r b) ∙ fed_all r b hb

-- ## The check byte

-- The register after bytes is the register after their bits ..
pub register_by_bits : (r : ℕ) (bs : List ℕ) → r < 256 → Bytes bs → register_from r bs ≡ register_bits r bs
unfolding register_from register_bits
register_by_bits r [] h small = refl
register_by_bits r (b ∷ bs) h small =
    ap (λ (x : ℕ). register_from x bs) (byte_by_bits r b h small.0)
    ∙ register_by_bits (bits_in r (high_first b)) bs (rw (← (byte_by_bits r b h small.0)) (register_lt r (b ∷ []) h)) small.1

-- .. and so is the check byte.
pub check_by_bits : (bs : List ℕ) → Bytes bs → check_of bs ≡ check_bits bs
unfolding check_of
check_by_bits bs small = ap (λ (x : ℕ). all_ones - x) (register_by_bits all_ones bs (omega arith) small)
