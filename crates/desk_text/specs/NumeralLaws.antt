-- Laws.
-- How many digits a number and some bytes are printed with, and that they are read again as what was printed.
use Rattle.std.specs.Prelude.{ℕ, zero, suc, ◌+◌, ◌-◌, ◌*◌, ◌/◌, ◌%◌, ◌^◌, ◌≤◌, ◌<◌, ◌≡◌, refl, Bool, true, false, cond, List, [], ◌∷◌, ◌++◌, ltb, length}
use Rattle.std.proofs.Common.{◌∙◌, arith, pow-suc, length-append, lt-ltb, le-ltb, ltb-true, ltb-false}
use Rattle.desk_text.specs.Grammar.{spells, spelt}
use Rattle.desk_text.specs.Numerals.{numeral, decimal_in, decimal, hex_digit, hex, hex_value, hex_spelt}

-- A number below 10 ^ (j + 1) has at most j + 1 digits.
digits_few : (f j n : ℕ) → n < 10 ^ suc j → length (decimal_in f n) ≤ suc j
unfolding decimal_in
digits_few zero j n h = omega arith
digits_few (suc f) zero n h = rw (lt-ltb n 10 h) (omega arith)
digits_few (suc f) (suc j) n h = go (ltb n 10) (digits_few f j (n / 10) (omega (arith, pow-suc 10 (suc j))))
  where
    go : (b : Bool) → length (decimal_in f (n / 10)) ≤ suc j → length (cond b (numeral n ∷ []) (decimal_in f (n / 10) ++ (numeral (n % 10) ∷ []))) ≤ suc (suc j)
    go true k = omega arith
    go false k = omega (arith, length-append (decimal_in f (n / 10)) (numeral (n % 10) ∷ []))

-- A number below 100,000 has at most five digits ..
pub five_digits : (n : ℕ) → n < 100000 → length (decimal n) ≤ 5
five_digits n h = digits_few 19 4 n h

-- .. and one below 100 at most two.
pub two_digits : (n : ℕ) → n < 100 → length (decimal n) ≤ 2
two_digits n h = digits_few 19 1 n h

-- Two digits for each byte.
pub hex_length : (bs : List ℕ) → length (hex bs) ≡ 2 * length bs
unfolding hex
hex_length [] = refl
hex_length (b ∷ bs) = omega (arith, hex_length bs)

-- ## Read again

-- one digit more
pub spells_last : (a : ℕ) (l : List ℕ) (x : ℕ) → spells a (l ++ (x ∷ [])) ≡ spells a l * 10 + (x - 48)
unfolding spells
spells_last a [] x = refl
spells_last a (y ∷ l) x = spells_last (a * 10 + (y - 48)) l x

-- A number below 10 ^ (f + 1) is spelt by its digits.
digits_spell : (f n : ℕ) → n < 10 ^ suc f → spelt (decimal_in f n) ≡ n
unfolding decimal_in spells
digits_spell zero n h = omega arith
digits_spell (suc f) n h = go (ltb n 10) (digits_spell f (n / 10) (omega (arith, pow-suc 10 (suc f))))
  where
    go : (b : Bool) → spelt (decimal_in f (n / 10)) ≡ n / 10 → spelt (cond b (numeral n ∷ []) (decimal_in f (n / 10) ++ (numeral (n % 10) ∷ []))) ≡ n
    go true e = omega arith
    go false e = spells_last 0 (decimal_in f (n / 10)) (numeral (n % 10)) ∙ omega (arith, e)

-- Every line's number is read again as it was printed.
pub spelt_decimal : (n : ℕ) → n < 100000 → spelt (decimal n) ≡ n
spelt_decimal n h = digits_spell 19 n (omega arith)

-- A hex digit stands for what it was printed for ..
digit_value : (d : ℕ) → hex_value (hex_digit d) ≡ d
unfolding hex_digit hex_value
digit_value d = go (ltb d 10) refl
  where
    go : (b : Bool) → ltb d 10 ≡ b → cond (ltb (cond b (48 + d) (55 + d)) 58) (cond b (48 + d) (55 + d) - 48) (cond b (48 + d) (55 + d) - 55) ≡ d
    go true e = rw (lt-ltb (48 + d) 58 (omega (arith, ltb-true d 10 e))) (omega arith)
    go false e = rw (le-ltb (55 + d) 58 (omega (arith, ltb-false d 10 e))) (omega arith)

-- .. and whatever bytes are printed in hex, the digits spell them again.
pub hex_again : (bs : List ℕ) → hex_spelt (hex bs) ≡ bs
unfolding hex hex_spelt
hex_again [] = refl
hex_again (b ∷ bs) =
    let e : 16 * (b / 16) + b % 16 ≡ b = omega arith in
    rw (digit_value (b / 16), digit_value (b % 16), e, hex_again bs)
