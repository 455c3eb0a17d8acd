-- Laws.
-- One bit more: what it does to the bytes so far and to the bits that are left over.
use Rattle.std.specs.Prelude.{ℕ, zero, suc, ◌+◌, ◌-◌, ◌*◌, ◌%◌, ◌≤◌, ◌<◌, ◌≡◌, refl, List, [], ◌∷◌, ◌++◌, Bool, true, false, eqb, length}
use Rattle.std.proofs.Common.{sym, ap, ◌∙◌, append-nil, append_assoc, arith, add-zero, length-append, ne_eqb}
use Rattle.std.proofs.Math.Seq.{take-append_seam, get_or-append_seam}
use Rattle.checkbyte.specs.Register.{step_of, register_from, check_of}
use Rattle.frame.specs.Bits.{value, byte, bytes}
use Rattle.frame.specs.Signs.{bits_shown}
use Rattle.frame.specs.Line.{Line, bits_from, bits_in}
use Rattle.frame.specs.Faults.{checks_out, whole}
use Rattle.frame.specs.ReadStated.{left_over, shifted_in}

-- No bits make no bytes ..
pub bytes_none : bytes [] ≡ []
unfolding bytes
bytes_none = refl

-- .. and leave nothing over: the partial byte is its leading 1.
pub left_over_none : shifted_in 1 (left_over []) ≡ 1
unfolding left_over shifted_in
left_over_none = refl

-- No bits shift nothing in.
pub shifted_none : (n : ℕ) → shifted_in n [] ≡ n
unfolding shifted_in
shifted_none n = refl

-- One bit more after them doubles the number and adds the bit.
pub shifted_more : (n : ℕ) (bits : List Bool) (b : Bool) → shifted_in n (bits ++ (b ∷ [])) ≡ shifted_in n bits * 2 + value b
unfolding shifted_in
shifted_more n [] b = refl
shifted_more n (x ∷ bits) b = shifted_more (n * 2 + value x) bits b

-- A bit is 0 or 1.
pub value_small : (b : Bool) → value b ≤ 1
value_small true = omega arith
value_small false = omega arith

-- What one bit more does: it is left over, or it makes a byte whole.
pub data OneMore (bits : List Bool) (b : Bool) : Type 0 where
  is_left : shifted_in 1 (left_over bits) * 2 + value b < 256 → bytes (bits ++ (b ∷ [])) ≡ bytes bits
      → left_over (bits ++ (b ∷ [])) ≡ left_over bits ++ (b ∷ []) → OneMore bits b
  is_whole : (n : ℕ) → shifted_in 1 (left_over bits) * 2 + value b ≡ 256 + n → bytes (bits ++ (b ∷ [])) ≡ bytes bits ++ (n ∷ [])
      → left_over (bits ++ (b ∷ [])) ≡ [] → OneMore bits b

-- One of the two happens to each bit.
pub one_more : (bits : List Bool) (b : Bool) → OneMore bits b
unfolding left_over shifted_in bytes
one_more [] b = is_left (omega (arith, value_small b)) refl refl
one_more (x1 ∷ []) b = is_left (omega (arith, value_small b, value_small x1)) refl refl
one_more (x1 ∷ x2 ∷ []) b = is_left (omega (arith, value_small b, value_small x1, value_small x2)) refl refl
one_more (x1 ∷ x2 ∷ x3 ∷ []) b = is_left (omega (arith, value_small b, value_small x1, value_small x2, value_small x3)) refl refl
one_more (x1 ∷ x2 ∷ x3 ∷ x4 ∷ []) b = is_left (omega (arith, value_small b, value_small x1, value_small x2, value_small x3, value_small x4)) refl refl
one_more (x1 ∷ x2 ∷ x3 ∷ x4 ∷ x5 ∷ []) b = is_left (omega (arith, value_small b, value_small x1, value_small x2, value_small x3, value_small x4, value_small x5)) refl refl
one_more (x1 ∷ x2 ∷ x3 ∷ x4 ∷ x5 ∷ x6 ∷ []) b = is_left (omega (arith, value_small b, value_small x1, value_small x2, value_small x3, value_small x4, value_small x5, value_small x6)) refl refl
one_more (x1 ∷ x2 ∷ x3 ∷ x4 ∷ x5 ∷ x6 ∷ x7 ∷ []) b = is_whole (byte x1 x2 x3 x4 x5 x6 x7 b) (omega arith) refl refl
one_more (x1 ∷ x2 ∷ x3 ∷ x4 ∷ x5 ∷ x6 ∷ x7 ∷ x8 ∷ rest) b = up (one_more rest b)
  where
    up : OneMore rest b → OneMore (x1 ∷ x2 ∷ x3 ∷ x4 ∷ x5 ∷ x6 ∷ x7 ∷ x8 ∷ rest) b
    up (is_left s e f) = is_left s (ap (λ (r : List ℕ). byte x1 x2 x3 x4 x5 x6 x7 x8 ∷ r) e) f
    up (is_whole n s e f) = is_whole n s (ap (λ (r : List ℕ). byte x1 x2 x3 x4 x5 x6 x7 x8 ∷ r) e) f

above : (n : ℕ) → 2 ≤ n → eqb n 1 ≡ false
above n h = ne_eqb n 1 (λ e. omega arith)

-- "1 to 7 bits of a byte": the partial byte is other than its leading 1.
pub left_none : (bits : List Bool) → eqb (shifted_in 1 (left_over bits)) 1 ≡ whole bits
unfolding left_over shifted_in
left_none [] = refl
left_none (x1 ∷ []) = above (shifted_in 1 (x1 ∷ [])) (omega arith)
left_none (x1 ∷ x2 ∷ []) = above (shifted_in 1 (x1 ∷ x2 ∷ [])) (omega arith)
left_none (x1 ∷ x2 ∷ x3 ∷ []) = above (shifted_in 1 (x1 ∷ x2 ∷ x3 ∷ [])) (omega arith)
left_none (x1 ∷ x2 ∷ x3 ∷ x4 ∷ []) = above (shifted_in 1 (x1 ∷ x2 ∷ x3 ∷ x4 ∷ [])) (omega arith)
left_none (x1 ∷ x2 ∷ x3 ∷ x4 ∷ x5 ∷ []) = above (shifted_in 1 (x1 ∷ x2 ∷ x3 ∷ x4 ∷ x5 ∷ [])) (omega arith)
left_none (x1 ∷ x2 ∷ x3 ∷ x4 ∷ x5 ∷ x6 ∷ []) = above (shifted_in 1 (x1 ∷ x2 ∷ x3 ∷ x4 ∷ x5 ∷ x6 ∷ [])) (omega arith)
left_none (x1 ∷ x2 ∷ x3 ∷ x4 ∷ x5 ∷ x6 ∷ x7 ∷ []) = above (shifted_in 1 (x1 ∷ x2 ∷ x3 ∷ x4 ∷ x5 ∷ x6 ∷ x7 ∷ [])) (omega arith)
left_none (x1 ∷ x2 ∷ x3 ∷ x4 ∷ x5 ∷ x6 ∷ x7 ∷ x8 ∷ rest) = left_none rest ∙ ap (λ (m : ℕ). eqb m 0) (eight (length rest))
  where
    eight : (n : ℕ) → n % 8 ≡ suc (suc (suc (suc (suc (suc (suc (suc n))))))) % 8
    eight n = omega arith

-- The register over bytes and one byte more.
pub register_more : (r : ℕ) (bs : List ℕ) (b : ℕ) → register_from r (bs ++ (b ∷ [])) ≡ step_of (register_from r bs) b
unfolding register_from
register_more r [] b = refl
register_more r (x ∷ bs) b = register_more (step_of r x) bs b

-- Whether bytes end with their check byte, seen at the last one.
pub checks_more : (bs : List ℕ) (b : ℕ) → checks_out (bs ++ (b ∷ [])) ≡ eqb b (check_of bs)
unfolding checks_out
checks_more bs b =
    let n : length (bs ++ (b ∷ [])) - 1 ≡ length bs = simp length-append (omega arith) in
    rw (n, get_or-append_seam bs b [] 0, take-append_seam bs (b ∷ []))

bits_more : (l : Line) (i n : ℕ) → bits_from l i (suc n) ≡ bits_from l i n ++ bits_shown (l.shows (i + n))
unfolding bits_from
bits_more l i zero = rw (add-zero i) (append-nil (bits_shown (l.shows i)))
bits_more l i (suc n) =
    let move : i + 1 + n ≡ i + suc n = omega arith in
    ap (λ (x : List Bool). bits_shown (l.shows i) ++ x) (bits_more l (i + 1) n ∙ rw move)
    ∙ sym (append_assoc (bits_shown (l.shows i)) (bits_from l (i + 1) n) (bits_shown (l.shows (i + suc n))))

-- The bits of places, and of one place more.
pub bits_next : (l : Line) (i k : ℕ) → i ≤ k → bits_in l i (k + 1) ≡ bits_in l i k ++ bits_shown (l.shows k)
bits_next l i k h =
    let n : k + 1 - i ≡ suc (k - i) = omega arith in
    let m : i + (k - i) ≡ k = omega arith in
    ap (bits_from l i) n ∙ bits_more l i (k - i) ∙ ap (λ (x : ℕ). bits_from l i (k - i) ++ bits_shown (l.shows x)) m

-- No places show no bits.
pub bits_empty : (l : Line) (i k : ℕ) → k ≤ i → bits_in l i k ≡ []
unfolding bits_from
bits_empty l i k h = let n : k - i ≡ 0 = omega arith in ap (bits_from l i) n
