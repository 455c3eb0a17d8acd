-- Laws.
-- Over any bytes and their check byte together the register ends at 0xC4, and over no others.
use Rattle.std.specs.Prelude.{◌≡◌, refl, Bool, List, [], ◌∷◌, ◌++◌, ℕ, ◌+◌, ◌*◌, ◌-◌, ◌/◌, ◌%◌, ◌≤◌, ◌<◌, eqb, length, get_or, drop}
use Rattle.std.proofs.Common.{ap, ◌∙◌, mod-lt, add-one, arith, eqb→eq, drop-cons}
use Rattle.std.specs.Int.Bits.{bit_xor}
use Rattle.std.proofs.lemmas.Nat.{xor_lt}
use Rattle.std.proofs.Math.Seq.{drop-length}
use Rattle.laws.specs.Each.{each}
use Rattle.checkbyte.specs.Register.{shift, eight_shifts, step_of, register_from, register_of, check_of, with_check, all_ones, residue, polynomial}

-- A shift of a byte, with no number in it that leaves a byte's range on the way.
pub shift_byte : (r : ℕ) → r < 256 → bit_xor ((r % 128) * 2) ((r / 128) * polynomial) ≡ shift r
unfolding shift
shift_byte r h =
    let low : (r % 128) * 2 ≡ (r * 2) % 256 = omega arith in
    let top : r / 128 ≡ r / 128 % 2 = omega arith in
    ap (λ (x : ℕ). bit_xor x ((r / 128) * polynomial)) low ∙ ap (λ (x : ℕ). bit_xor ((r * 2) % 256) (x * polynomial)) top

shift_lt : (r : ℕ) → shift r < 256
unfolding shift
shift_lt r = xor_lt 8 ((r * 2) % 256) ((r / 128 % 2) * polynomial) (mod-lt (r * 2) (omega arith)) (omega arith)

eight_lt : (r : ℕ) → eight_shifts r < 256
unfolding eight_shifts
eight_lt r = shift_lt (shift (shift (shift (shift (shift (shift (shift r)))))))

-- The register stays a byte, whatever is fed.
step_lt : (r b : ℕ) → step_of r b < 256
unfolding step_of
step_lt r b = eight_lt (bit_xor r b)

-- The same over any bytes.
pub register_lt : (r : ℕ) (bs : List ℕ) → r < 256 → register_from r bs < 256
unfolding register_from
register_lt r [] h = h
register_lt r (b ∷ bs) h = register_lt (step_of r b) bs (step_lt r b)

-- The check byte is a byte, for every message.
pub check_lt : (bs : List ℕ) → check_of bs < 256
unfolding check_of
check_lt bs = omega arith

-- Feeding one part and then the next is feeding both.
pub register_append : (r : ℕ) (a b : List ℕ) → register_from r (a ++ b) ≡ register_from (register_from r a) b
unfolding register_from
register_append r [] b = refl
register_append r (x ∷ a) b = register_append (step_of r x) a b

-- a register's own inverse, fed to it: computed at all 256
inverse_test : ℕ → Bool
inverse_test r = eqb (step_of r (all_ones - r)) residue

-- A register that is fed its own inverse, which is what the check byte does, ends at 0xC4.
pub inverse : (r : ℕ) → r < 256 → step_of r (all_ones - r) ≡ residue
unfolding inverse_test step_of
inverse r h = eqb→eq (step_of r (all_ones - r)) residue (each 256 inverse_test tt r h)

-- "Over bytes and check byte together the register ends at 0xC4": for every message of every length.
pub residue_is : (bs : List ℕ) → register_of (with_check bs) ≡ residue
unfolding register_from check_of
residue_is bs =
    register_append all_ones bs (check_of bs ∷ []) ∙ inverse (register_of bs) (register_lt all_ones bs (omega arith))

-- One byte more, for a loop over them.
pub register_at : (r : ℕ) (bs : List ℕ) (i : ℕ) → i < length bs → register_from (step_of r (get_or bs i 0)) (drop (i + 1) bs) ≡ register_from r (drop i bs)
unfolding register_from
register_at r bs i h = rw (add-one, drop-cons bs i 0 h)

-- No byte is left.
pub register_end : (r : ℕ) (bs : List ℕ) (i : ℕ) → length bs ≤ i → i ≤ length bs → register_from r (drop i bs) ≡ r
unfolding register_from
register_end r bs i h k = let e : i ≡ length bs = omega arith in rw (e, drop-length bs)
