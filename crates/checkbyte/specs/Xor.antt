-- Laws.
-- Exclusive or loses nothing: from a number and its exclusive or with another, the other is known.
use Rattle.std.specs.Prelude.{◌≡◌, refl, ℕ, zero, suc, ◌+◌, ◌*◌, ◌/◌, ◌%◌, ◌^◌, ◌<◌}
use Rattle.std.proofs.Common.{sym, ◌∙◌, pow-suc, arith}
use Rattle.std.specs.Int.Bits.{bit_xor, differ, xor_step}

-- for one digit
digit : (x y z : ℕ) → x < 2 → y < 2 → z < 2 → differ x y ≡ differ x z → y ≡ z
digit zero y z hx hy hz e = e
digit (suc zero) zero zero hx hy hz e = refl
digit (suc zero) zero (suc z) hx hy hz e = omega arith
digit (suc zero) (suc y) zero hx hy hz e = omega arith
digit (suc zero) (suc y) (suc z) hx hy hz e = omega arith
digit (suc (suc x)) y z hx hy hz e = absurd (omega arith)

-- Two digits added without carry are a digit.
pub differ_lt : (x y : ℕ) → x < 2 → y < 2 → differ x y < 2
differ_lt zero y hx hy = hy
differ_lt (suc zero) zero hx hy = omega arith
differ_lt (suc zero) (suc y) hx hy = omega arith
differ_lt (suc (suc x)) y hx hy = absurd (omega arith)

-- A number below 2^k is known from its exclusive or with any other.
pub xor_same : (k a b c : ℕ) → b < 2 ^ k → c < 2 ^ k → bit_xor a b ≡ bit_xor a c → b ≡ c
xor_same zero a b c hb hc e = omega arith
xor_same (suc k) a b c hb hc e =
    let p : bit_xor (a / 2) (b / 2) * 2 + differ (a % 2) (b % 2) ≡ bit_xor (a / 2) (c / 2) * 2 + differ (a % 2) (c % 2) = sym (xor_step a b) ∙ e ∙ xor_step a c in
    let hy : differ (a % 2) (b % 2) < 2 = differ_lt (a % 2) (b % 2) (omega arith) (omega arith) in
    let hz : differ (a % 2) (c % 2) < 2 = differ_lt (a % 2) (c % 2) (omega arith) (omega arith) in
    let top : bit_xor (a / 2) (b / 2) ≡ bit_xor (a / 2) (c / 2) = omega arith in
    let low : b % 2 ≡ c % 2 = digit (a % 2) (b % 2) (c % 2) (omega arith) (omega arith) (omega arith) (omega arith) in
    let half : b / 2 ≡ c / 2 = xor_same k (a / 2) (b / 2) (c / 2) (omega (arith, pow-suc 2 k)) (omega (arith, pow-suc 2 k)) top in
    omega arith
