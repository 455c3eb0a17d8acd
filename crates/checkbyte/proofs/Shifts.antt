-- The loop of `step`: the bits that are left, shifted through the register as it stands, give the register after the byte.
use Prim.Native.Nat.{ℕ, zero, suc, ◌+◌, ◌-◌, ◌≤◌, ◌<◌}
use mathlib.Core.Path.{◌≡◌, refl}
use native.Mathlib.Omega.{arith}
use Rattle.std.specs.Int.Bits.{bit_xor}
use Rattle.checkbyte.specs.Register.{shift, eight_shifts, step_of}

-- some shifts, one after the other
abbrev pub shifts : ℕ → ℕ → ℕ
shifts zero r = r
shifts (suc n) r = shifts n (shift r)

pub all_left : (r b : ℕ) → shifts (8 - 0) (bit_xor r b) ≡ step_of r b
unfolding step_of eight_shifts
all_left r b = refl

pub one_done : (k r s : ℕ) → k < 8 → shifts (8 - k) r ≡ s → shifts (8 - (k + 1)) (shift r) ≡ s
one_done k r s h e =
    let left : 8 - k ≡ suc (8 - (k + 1)) = omega arith in
    rw left at e

pub none_left : (k r s : ℕ) → 8 ≤ k → shifts (8 - k) r ≡ s → r ≡ s
none_left k r s h e =
    let left : 8 - k ≡ 0 = omega arith in
    rw left at e
