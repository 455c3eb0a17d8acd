-- Laws.
-- Bytes as bits and back: nothing is lost either way.
use Rattle.std.specs.Prelude.{ℕ, zero, suc, ◌+◌, ◌-◌, ◌*◌, ◌/◌, ◌%◌, ◌^◌, ◌≤◌, ◌<◌, ◌≡◌, refl, Bool, true, false, List, [], ◌∷◌, ◌++◌, eqb, length, get_or, take}
use Rattle.std.proofs.Common.{sym, ap, ap₂, ◌∙◌, arith, eqb→eq, take-suc, eqb-true, eq-eqb}
use Rattle.std.proofs.Math.Seq.{take-length}
use Rattle.laws.specs.Each.{each}
use Rattle.checkbyte.specs.Register.{check_of, with_check, Bytes}
use Rattle.checkbyte.specs.Residue.{check_lt}
use Rattle.frame.specs.Bits.{value, byte, bytes, odd, bits_of_byte, bits_of}
use Rattle.frame.specs.Faults.{checks_out}
use Rattle.frame.proofs.BitLaws.{value_small, checks_more}
use Rattle.frame.specs.Nominal.{without_check}

-- ## Bytes to bits to bytes

same_byte : ℕ → Bool
same_byte n = eqb (byte (odd (n / 128)) (odd (n / 64)) (odd (n / 32)) (odd (n / 16)) (odd (n / 8)) (odd (n / 4)) (odd (n / 2)) (odd n)) n

-- computed for each of the 256
byte_back : (n : ℕ) → n < 256 → byte (odd (n / 128)) (odd (n / 64)) (odd (n / 32)) (odd (n / 16)) (odd (n / 8)) (odd (n / 4)) (odd (n / 2)) (odd n) ≡ n
unfolding same_byte
byte_back n h = eqb→eq _ n (each 256 same_byte tt n h)

-- The bits of bytes make the same bytes again.
pub bytes_back : (ns : List ℕ) → Bytes ns → bytes (bits_of ns) ≡ ns
unfolding bytes bits_of
bytes_back [] h = refl
bytes_back (n ∷ ns) h = rw (byte_back n h.0, bytes_back ns h.1)

-- Bit k of a byte, the high bit first.
bit_in : (n : ℕ) (r : List Bool) (k : ℕ) → k < 8 → get_or (bits_of_byte n ++ r) k false ≡ odd (n / 2 ^ (7 - k))
bit_in n r zero h = refl
bit_in n r (suc zero) h = refl
bit_in n r (suc (suc zero)) h = refl
bit_in n r (suc (suc (suc zero))) h = refl
bit_in n r (suc (suc (suc (suc zero)))) h = refl
bit_in n r (suc (suc (suc (suc (suc zero))))) h = refl
bit_in n r (suc (suc (suc (suc (suc (suc zero)))))) h = refl
bit_in n r (suc (suc (suc (suc (suc (suc (suc zero))))))) h = let e : n / 1 ≡ n = omega arith in ap odd (sym e)
bit_in n r (suc (suc (suc (suc (suc (suc (suc (suc k)))))))) h = absurd (omega arith)

-- Bit k of byte i.
pub bits_at : (ns : List ℕ) (i k : ℕ) → i < length ns → k < 8 → get_or (bits_of ns) (i * 8 + k) false ≡ odd (get_or ns i 0 / 2 ^ (7 - k))
unfolding bits_of
bits_at [] i k l h = absurd (omega arith)
bits_at (n ∷ ns) zero k l h = ap (λ x. get_or (bits_of (n ∷ ns)) x false) (let e : 0 * 8 + k ≡ k = omega arith in e) ∙ bit_in n (bits_of ns) k h
bits_at (n ∷ ns) (suc i) k l h =
    let e : suc i * 8 + k ≡ suc (suc (suc (suc (suc (suc (suc (suc (i * 8 + k)))))))) = omega arith in
    ap (λ x. get_or (bits_of (n ∷ ns)) x false) e ∙ bits_at ns i k (omega arith) h

-- The bits of bytes and of bytes after them.
pub bits_append : (x y : List ℕ) → bits_of (x ++ y) ≡ bits_of x ++ bits_of y
unfolding bits_of
bits_append [] y = refl
bits_append (n ∷ x) y = ap (λ (r : List Bool). bits_of_byte n ++ r) (bits_append x y)

-- The bits of a byte and of bytes after it.
pub bits_cons : (n : ℕ) (ns : List ℕ) → bits_of (n ∷ ns) ≡ bits_of_byte n ++ bits_of ns
unfolding bits_of
bits_cons n ns = refl

-- Each byte has eight bits.
pub bits_length : (ns : List ℕ) → length (bits_of ns) ≡ 8 * length ns
unfolding bits_of
bits_length [] = refl
bits_length (n ∷ ns) = omega (arith, bits_length ns)

-- ## Bits to bytes to bits

value_back : (n : ℕ) (b : Bool) → n % 2 ≡ value b → odd n ≡ b
value_back n true e = rw e
value_back n false e = rw e

eight_back_law : (a b c d e f g h : Bool) → bits_of_byte (byte a b c d e f g h) ≡ a ∷ b ∷ c ∷ d ∷ e ∷ f ∷ g ∷ h ∷ []
eight_back_law a b c d e f g h =
    let n : ℕ = byte a b c d e f g h in
    let la = value_small a in
    let lb = value_small b in
    let lc = value_small c in
    let ld = value_small d in
    let le = value_small e in
    let lf = value_small f in
    let lg = value_small g in
    let lh = value_small h in
    rw (
      value_back (n / 128) a (omega arith),
      value_back (n / 64) b (omega arith),
      value_back (n / 32) c (omega arith),
      value_back (n / 16) d (omega arith),
      value_back (n / 8) e (omega arith),
      value_back (n / 4) f (omega arith),
      value_back (n / 2) g (omega arith),
      value_back n h (omega arith),
    )

-- Bits that make whole bytes are the bits of those bytes.
pub bits_back : (bits : List Bool) → length bits % 8 ≡ 0 → bits_of (bytes bits) ≡ bits
unfolding bytes bits_of
bits_back [] w = refl
bits_back (a ∷ []) w = absurd (omega arith)
bits_back (a ∷ b ∷ []) w = absurd (omega arith)
bits_back (a ∷ b ∷ c ∷ []) w = absurd (omega arith)
bits_back (a ∷ b ∷ c ∷ d ∷ []) w = absurd (omega arith)
bits_back (a ∷ b ∷ c ∷ d ∷ e ∷ []) w = absurd (omega arith)
bits_back (a ∷ b ∷ c ∷ d ∷ e ∷ f ∷ []) w = absurd (omega arith)
bits_back (a ∷ b ∷ c ∷ d ∷ e ∷ f ∷ g ∷ []) w = absurd (omega arith)
bits_back (a ∷ b ∷ c ∷ d ∷ e ∷ f ∷ g ∷ h ∷ rest) w =
    ap₂ (λ (x y : List Bool). x ++ y) (eight_back_law a b c d e f g h) (bits_back rest (omega arith))

-- Bits make no more bytes than there are eights of them, and every number that they make is a byte.
pub bytes_few_law : (bits : List Bool) → 8 * length (bytes bits) ≤ length bits
unfolding bytes
bytes_few_law [] = omega arith
bytes_few_law (a ∷ []) = omega arith
bytes_few_law (a ∷ b ∷ []) = omega arith
bytes_few_law (a ∷ b ∷ c ∷ []) = omega arith
bytes_few_law (a ∷ b ∷ c ∷ d ∷ []) = omega arith
bytes_few_law (a ∷ b ∷ c ∷ d ∷ e ∷ []) = omega arith
bytes_few_law (a ∷ b ∷ c ∷ d ∷ e ∷ f ∷ []) = omega arith
bytes_few_law (a ∷ b ∷ c ∷ d ∷ e ∷ f ∷ g ∷ []) = omega arith
bytes_few_law (a ∷ b ∷ c ∷ d ∷ e ∷ f ∷ g ∷ h ∷ rest) = omega (arith, bytes_few_law rest)

-- Every number that bits make is a byte.
pub bytes_made : (bits : List Bool) → Bytes (bytes bits)
unfolding bytes
bytes_made [] = tt
bytes_made (a ∷ []) = tt
bytes_made (a ∷ b ∷ []) = tt
bytes_made (a ∷ b ∷ c ∷ []) = tt
bytes_made (a ∷ b ∷ c ∷ d ∷ []) = tt
bytes_made (a ∷ b ∷ c ∷ d ∷ e ∷ []) = tt
bytes_made (a ∷ b ∷ c ∷ d ∷ e ∷ f ∷ []) = tt
bytes_made (a ∷ b ∷ c ∷ d ∷ e ∷ f ∷ g ∷ []) = tt
bytes_made (a ∷ b ∷ c ∷ d ∷ e ∷ f ∷ g ∷ h ∷ rest) = (small, bytes_made rest)
  where
    small : byte a b c d e f g h < 256
    small = omega (arith, value_small a, value_small b, value_small c, value_small d, value_small e, value_small f, value_small g, value_small h)

-- ## Check bytes

-- A check byte that is put after bytes is right.
pub with_checks : (bs : List ℕ) → checks_out (with_check bs) ≡ true
with_checks bs = checks_more bs (check_of bs) ∙ eq-eqb (check_of bs) (check_of bs) refl

-- Bytes with their check byte are bytes.
pub with_bytes : (bs : List ℕ) → Bytes bs → Bytes (with_check bs)
with_bytes bs h = appended bs (check_of bs) (check_lt bs) h
  where
    appended : (ns : List ℕ) (c : ℕ) → c < 256 → Bytes ns → Bytes (ns ++ (c ∷ []))
    appended [] c k h = (k, tt)
    appended (n ∷ ns) c k h = (h.0, appended ns c k h.1)

-- Bytes that end with their check byte are those before it with their check byte.
pub check_back : (bs : List ℕ) → 1 ≤ length bs → checks_out bs ≡ true → with_check (without_check bs) ≡ bs
unfolding checks_out
check_back bs h e =
    let n : suc (length bs - 1) ≡ length bs = omega arith in
    let last : get_or bs (length bs - 1) 0 ≡ check_of (without_check bs) = eqb-true (get_or bs (length bs - 1) 0) (check_of (without_check bs)) e in
    ap (λ (x : ℕ). without_check bs ++ (x ∷ [])) (sym last) ∙ sym (take-suc bs (length bs - 1) 0 (omega arith)) ∙ ap (λ (x : ℕ). take x bs) n ∙ take-length bs
