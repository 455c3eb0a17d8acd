-- Laws of laying text: one part after another, space for what is left, and how each function's stores lay its text.
use Prim.Native.Nat.{ℕ, zero, suc, ◌+◌, ◌-◌, ◌/◌, ◌%◌, ◌^◌, ◌≤◌, ◌<◌}
use mathlib.Core.Path.{◌≡◌, refl, sym, ap, ◌∙◌, subst}
use mathlib.Core.List.{List, [], ◌∷◌, ◌++◌, append_assoc, append-nil}
use native.Mathlib.Omega.{arith}
use native.Mathlib.Nat.{pow-suc, pow-le-pow_right, le_trans}
use lib.ListN.{length, get_or, take, drop, length-append, drop_of_length-le}
use lib.Seq.{drop-drop, drop-cons, take_at, drop_at}
use mathlib.Core.Logic.{◌⊎◌, inl, inr}
use borrow.Author.Tests.{lt-ltb, le-ltb}
use borrow.Rule.Slice.PartMut.{put_mid}
use Rattle.std.proofs.lemmas.List.{take_all, drop_all, length-drop}
use Rattle.io.specs.Digits.{last_digits, hex_digit_ascii, IsDigitCount}
use Rattle.laws.specs.Tests.{up_to}
use Rattle.desk_text.specs.Numerals.{numeral, decimal_in, decimal, hex_digit, hex}
use Rattle.desk_report.specs.Laying.{Laid, Space}

-- ## One part after another

-- what is lent after the first k bytes
abbrev pub after : ℕ → List ℕ → List ℕ
after k lent = take (length lent - k) (drop k lent)

module _ {front old mid : List ℕ} {k : ℕ} (x : Laid front old mid k) where
  begun : drop k mid ≡ drop (length front) old
  begun = ap (drop k) x.lays ∙ drop_at front (drop (length front) old) k (sym x.counts)

  long : length mid ≡ length front + length (drop (length front) old)
  long = ap length x.lays ∙ length-append front (drop (length front) old)

  -- what is lent after the front is as it was
  rest : after k mid ≡ drop (length front) old
  rest = rw begun (take_all (length mid - k) (drop (length front) old) (omega (arith, x.counts, long)))

  laid_after : (s : List ℕ) {part : List ℕ} {j : ℕ} → Laid s (after k mid) part j → Laid (front ++ s) old (put_mid k (length mid - k) mid part) (k + j)
  laid_after s {part} {j} y =
      record {
        counts = omega (arith, x.counts, y.counts, length-append front s);
        lays =
            ap (λ (xs : List ℕ). xs ++ (part ++ drop (length mid - k) (drop k mid))) (ap (take k) x.lays ∙ take_at front (drop (length front) old) k (sym x.counts))
            ∙ ap (λ (xs : List ℕ). front ++ (part ++ xs)) (drop_all (length mid - k) (drop k mid) (rw begun (omega (arith, x.counts, long))))
            ∙ ap (λ (xs : List ℕ). front ++ xs) (append-nil part ∙ y.lays ∙ ap (λ (xs : List ℕ). s ++ drop (length s) xs) rest ∙ ap (λ (xs : List ℕ). s ++ xs) (drop-drop (length s) (length front) old))
            ∙ sym (append_assoc front s (drop (length front + length s) old))
            ∙ ap (λ (i : ℕ). (front ++ s) ++ drop i old) (sym (length-append front s));
      }

-- A part of the whole text stands at the front, k bytes, and what is left of the text comes after it.
pub record Left (left whole old lent : List ℕ) (k : ℕ) : Type 0 where
  pub done : List ℕ
  pub both : done ++ left ≡ whole
  pub space : Space whole old
  pub laid : Laid done old lent k

-- nothing is laid
pub none_yet : {whole old : List ℕ} → Space whole old → Left whole whole old old 0
none_yet h = record { done = []; both = refl; space = h; laid = record { counts = refl; lays = refl } }

-- the first part
pub first : {s t old lent : List ℕ} {k : ℕ} → Space (s ++ t) old → Laid s old lent k → Left t (s ++ t) old lent k
first {s} h x = record { done = s; both = refl; space = h; laid = x }

pub space_first : (s t : List ℕ) {old : List ℕ} → Space (s ++ t) old → Space s old
space_first s t h = record { fits = omega (arith, h.fits, length-append s t) }

module _ {whole old lent : List ℕ} {k : ℕ} where
  -- all is laid
  pub none_left : Left [] whole old lent k → Laid whole old lent k
  none_left l = subst (λ (w : List ℕ). Laid w old lent k) (sym (append-nil l.done) ∙ l.both) l.laid

  pub space_last : {s : List ℕ} → Left s whole old lent k → Space s (after k lent)
  space_last {s} l =
      rw (rest l.laid)
      (record { fits = omega (arith, l.space.fits, ap length l.both, length-append l.done s, length-drop (length l.done) old) })

  pub space_next : (s t : List ℕ) → Left (s ++ t) whole old lent k → Space s (after k lent)
  space_next s t l = space_first s t (space_last l)

  -- the last part, and one before it
  pub last : {s part : List ℕ} {j : ℕ} → Left s whole old lent k → Laid s (after k lent) part j → Laid whole old (put_mid k (length lent - k) lent part) (k + j)
  last {s} {part} {j} l x = subst (λ (w : List ℕ). Laid w old (put_mid k (length lent - k) lent part) (k + j)) l.both (laid_after l.laid s x)

  pub next : {s t part : List ℕ} {j : ℕ} → Left (s ++ t) whole old lent k → Laid s (after k lent) part j → Left t whole old (put_mid k (length lent - k) lent part) (k + j)
  next {s} {t} l x = record { done = l.done ++ s; both = append_assoc l.done s t ∙ l.both; space = l.space; laid = laid_after l.laid s x }

-- two texts
pub then : {s t old lent part : List ℕ} {k j : ℕ} → Space (s ++ t) old → Laid s old lent k → Laid t (after k lent) part j
    → Laid (s ++ t) old (put_mid k (length lent - k) lent part) (k + j)
then h x y = last (first h x) y

pub space_second : {s t old lent : List ℕ} {k : ℕ} → Space (s ++ t) old → Laid s old lent k → Space t (after k lent)
space_second h x = space_last (first h x)

-- what the code that lays several texts is proved by, but for the way out
pub ruleset laying_laws = (space_first, first, space_next, next, space_last)

-- ## Copied bytes

-- what copying s over `&mut out[..s.len()]` leaves
pub laid_copied : (s out ys : List ℕ) → ys ≡ s → Laid s out (ys ++ drop (length s) out) (length s)
laid_copied s out ys e = record { counts = refl; lays = ap (λ (xs : List ℕ). xs ++ drop (length s) out) e }

-- ## Decimal

digit_glyph : (n : ℕ) → hex_digit_ascii (n % 10) ≡ numeral (n % 10)
digit_glyph n = rw (lt-ltb (n % 10) 10 (omega arith))

ten : (k : ℕ) → 10 ≤ 10 ^ suc k
ten k = omega (arith, pow-suc 10 k, pow-le-pow_right {n = 10} (omega arith) {i = 0} {j = k} (omega arith))

-- the fewest digits that hold n are those of the decimal numeral
fewest_decimal : (f k n : ℕ) → k ≤ f → n < 10 ^ suc k → (0 < k → 10 ^ k ≤ n) → last_digits 10 (suc k) n ≡ decimal_in f n
unfolding decimal_in
fewest_decimal zero zero n h u l = ap (λ (d : ℕ). d ∷ []) (digit_glyph n)
fewest_decimal zero (suc k) n h u l = absurd (omega arith)
fewest_decimal (suc f) zero n h u l =
    let m : n % 10 ≡ n = omega arith in
    rw (lt-ltb n 10 u) (ap (λ (d : ℕ). d ∷ []) (digit_glyph n ∙ rw m))
fewest_decimal (suc f) (suc k) n h u l =
    let low : 10 ^ suc k ≤ n = l (omega arith) in
    let big : 10 ≤ n = le_trans (ten k) low in
    rw (le-ltb n 10 big, fewest_decimal f k (n / 10) (omega arith) (omega (arith, pow-suc 10 (suc k))) (λ z. omega (arith, pow-suc 10 k)), digit_glyph n)

few_digits : (n r : ℕ) → IsDigitCount 10 1 n r → n < 18446744073709551616 → r ≤ 20
few_digits n r f h = go (up_to r 20)
  where
    go : (r ≤ 20) ⊎ (20 < r) → r ≤ 20
    go (inl k) = k
    go (inr k) =
        let m : 10 ^ (r - 1) ≤ n = f.2 (omega arith) in
        let p : 10 ^ 20 ≤ 10 ^ (r - 1) = pow-le-pow_right {n = 10} (omega arith) {i = 20} {j = r - 1} (omega arith) in
        absurd (omega arith)

pub decimal_is : (n r : ℕ) → IsDigitCount 10 1 n r → n < 18446744073709551616 → last_digits 10 r n ≡ decimal n
decimal_is n r f h = go r f (few_digits n r f h)
  where
    go : (r : ℕ) → IsDigitCount 10 1 n r → r ≤ 20 → last_digits 10 r n ≡ decimal n
    go zero f l = absurd (omega arith)
    go (suc k) f l = let e : suc k - 1 ≡ k = omega arith in fewest_decimal 19 k n (omega arith) f.1 (λ z. rw e at (f.2 (omega arith)))

-- the digits that were made are the numeral, and there is space for them where there is space for it
module _ {n r : ℕ} {t : List ℕ} (f : IsDigitCount 10 1 n r) (h : n < 18446744073709551616) (e : t ≡ last_digits 10 r n) where
  pub number_space : (o : List ℕ) → Space (decimal n) o → Space t o
  number_space o k = rw (e ∙ decimal_is n r f h) k

  pub number_laid : {count : ℕ} {o p : List ℕ} → Laid t o p count → Laid (decimal n) o p count
  number_laid x = rw (e ∙ decimal_is n r f h) at x

-- ## Hex

-- the two digits of the byte at i, and those of the bytes after it
module _ (s : List ℕ) {old lent : List ℕ} {k : ℕ} (i : ℕ) (h : Left (hex (drop i s)) (hex s) old lent k) (l : i < length s) {x y : ℕ}
    (p : x ≡ hex_digit (get_or s i 0 / 16)) (q : y ≡ hex_digit (get_or s i 0 % 16)) where
  digits : Left ((x ∷ y ∷ []) ++ hex (drop (suc i) s)) (hex s) old lent k
  unfolding hex
  digits = rw (p, q) (rw (drop-cons s i 0 l) at h)

  pub hex_space : Space (x ∷ y ∷ []) (after k lent)
  hex_space = space_next _ _ digits

  pub hex_next : {part : List ℕ} {j : ℕ} → Laid (x ∷ y ∷ []) (after k lent) part j
      → Left (hex (drop (i + 1) s)) (hex s) old (put_mid k (length lent - k) lent part) (k + j)
  hex_next z = let e : i + 1 ≡ suc i = omega arith in rw e (next digits z)

-- no byte is left
pub hex_end : (s : List ℕ) {old lent : List ℕ} {k : ℕ} (i : ℕ) → Left (hex (drop i s)) (hex s) old lent k → length s ≤ i → Laid (hex s) old lent k
unfolding hex
hex_end s i h l = none_left (rw (drop_of_length-le s l) at h)
