-- Laws.
-- What a good line is made of, and how long it can be.
use Rattle.std.specs.Prelude.{ℕ, suc, ◌+◌, ◌-◌, ◌*◌, ◌^◌, ◌≤◌, ◌<◌, ◌≡◌, refl, true, false, ◌&&◌, List, [], ◌∷◌, ◌++◌, eqb, leb, ltb, length, get_or, ◌⊎◌}
use Rattle.std.proofs.Common.{sym, ap, ◌∙◌, arith, pow-suc, add-zero, length-append, eqb-true, leb-true, ltb-true, ne_eqb, inl, inr}
use Rattle.std.proofs.Math.Nat.{pow-le-pow_right}
use Rattle.std.proofs.lemmas.Bool.{eqb-false, not-true}
use Rattle.laws.specs.Tests.{never, both, up_to}
use Rattle.label.specs.Labels.{every, is_label, label_byte, most_label}
use Rattle.desk_text.specs.Grammar.{tab, fields, digit, spells, spelt, past_u32, no_leading_zero, is_width}
use Rattle.desk_text.specs.Input.{Line, field, own, iv, own_line, iv_line}
use Rattle.desk_text.specs.PieceLaws.{joined_pieces, same_is}
use Rattle.desk_text.specs.Stated.{joined, OwnIs, IvIs}

-- ## What they are made of

two : (fs : List (List ℕ)) → length fs ≡ 2 → fs ≡ get_or fs 0 [] ∷ get_or fs 1 [] ∷ []
two [] h = absurd (omega arith)
two (a ∷ []) h = absurd (omega arith)
two (a ∷ b ∷ []) h = refl
two (a ∷ b ∷ c ∷ cs) h = absurd (omega arith)

three : (fs : List (List ℕ)) → length fs ≡ 3 → fs ≡ get_or fs 0 [] ∷ get_or fs 1 [] ∷ get_or fs 2 [] ∷ []
three [] h = absurd (omega arith)
three (a ∷ []) h = absurd (omega arith)
three (a ∷ b ∷ []) h = absurd (omega arith)
three (a ∷ b ∷ c ∷ []) h = refl
three (a ∷ b ∷ c ∷ d ∷ ds) h = absurd (omega arith)

-- A good first line is made so.
pub own_is : (l : Line) → own_line l ≡ true → OwnIs l
unfolding own_line
own_is l e =
    let a = both l.closed _ e in
    let b = both _ (is_label (field 1 l) && is_label (field 2 l)) a.1 in
    let c = both (eqb (length (fields l.bytes)) 3) _ b.0 in
    let d = both (is_label (field 1 l)) (is_label (field 2 l)) b.1 in
    let parts : fields l.bytes ≡ field 0 l ∷ field 1 l ∷ field 2 l ∷ [] = three (fields l.bytes) (eqb-true _ 3 c.0) in
    record {
      closed = a.0;
      made = sym (joined_pieces tab l.bytes) ∙ ap (joined tab) parts ∙ ap (λ (f : List ℕ). f ++ (tab ∷ (field 1 l ++ (tab ∷ field 2 l)))) (same_is (field 0 l) own c.1);
      customer = d.0;
      vehicle = d.1;
    }

-- A good later line is made so.
pub iv_is : (l : Line) → iv_line l ≡ true → IvIs l
unfolding iv_line
iv_is l e =
    let a = both l.closed _ e in
    let b = both _ (is_width (field 1 l)) a.1 in
    let c = both (eqb (length (fields l.bytes)) 2) _ b.0 in
    let parts : fields l.bytes ≡ field 0 l ∷ field 1 l ∷ [] = two (fields l.bytes) (eqb-true _ 2 c.0) in
    record {
      closed = a.0;
      made = sym (joined_pieces tab l.bytes) ∙ ap (joined tab) parts ∙ ap (λ (f : List ℕ). f ++ (tab ∷ field 1 l)) (same_is (field 0 l) iv c.1);
      width = b.1;
    }

-- ## How long they are

-- A label has 1 to 16 bytes.
pub label_size : (l : List ℕ) → is_label l ≡ true → (1 ≤ length l) × (length l ≤ most_label)
unfolding is_label
label_size l e =
    let a = both _ (every label_byte l) e in
    let b = both (leb 1 (length l)) (leb (length l) most_label) a.0 in
    (leb-true 1 (length l) b.0, leb-true (length l) most_label b.1)

-- digits after a number of k + 1 digits spell one of so many more
spells_power : (k n : ℕ) (ds : List ℕ) → 10 ^ k ≤ n → 10 ^ (k + length ds) ≤ spells n ds
unfolding spells
spells_power k n [] h = rw (add-zero k) h
spells_power k n (x ∷ xs) h =
    let e : k + suc (length xs) ≡ suc k + length xs = omega arith in
    rw e (spells_power (suc k) (n * 10 + (x - 48)) xs (omega (arith, pow-suc 10 k)))

first_digit : (x : ℕ) → digit x ≡ true → eqb x 48 ≡ false → 1 ≤ x - 48
unfolding digit
first_digit x d z =
    let a = both (leb 48 x) (leb x 57) d in
    let n : ¬ (x ≡ 48) = eqb-false x 48 z in
    omega (arith, leb-true 48 x a.0)

-- A width has 1 to 10 digits: eleven without a leading zero spell more than a u32 holds.
pub width_size : (w : List ℕ) → is_width w ≡ true → (1 ≤ length w) × (length w ≤ 10)
unfolding is_width spells every
width_size [] e = never e refl
width_size (d ∷ []) e = (omega arith, omega arith)
width_size (d ∷ f ∷ ds) e =
    let a = both (leb 1 (length (d ∷ f ∷ ds))) _ e in
    let b = both (no_leading_zero (d ∷ f ∷ ds)) _ a.1 in
    let c = both (every digit (d ∷ f ∷ ds)) (ltb (spelt (d ∷ f ∷ ds)) past_u32) b.1 in
    let g = both (digit d) (every digit (f ∷ ds)) c.0 in
    let z : eqb d 48 ≡ false = not-true (eqb d 48) (rw (ne_eqb (length (d ∷ f ∷ ds)) 1 (λ q. omega arith)) at b.0) in
    (omega arith, short (first_digit d g.0 z) (ltb-true (spelt (d ∷ f ∷ ds)) past_u32 c.1) (up_to (length (f ∷ ds)) 9))
  where
    short : 1 ≤ d - 48 → spells (0 * 10 + (d - 48)) (f ∷ ds) < past_u32 → (length (f ∷ ds) ≤ 9) ⊎ (9 < length (f ∷ ds)) → length (d ∷ f ∷ ds) ≤ 10
    short h u (inl k) = omega arith
    short h u (inr k) =
        let p : 10 ^ (0 + length (f ∷ ds)) ≤ spells (0 * 10 + (d - 48)) (f ∷ ds) = spells_power 0 (0 * 10 + (d - 48)) (f ∷ ds) (omega arith) in
        let q : 10 ^ 10 ≤ 10 ^ (0 + length (f ∷ ds)) = pow-le-pow_right {n = 10} (omega arith) {i = 10} {j = 0 + length (f ∷ ds)} (omega arith) in
        absurd (omega arith)

-- the most bytes of a good first line, without its newline: `own`, two tabs and two labels
abbrev pub most_own : ℕ
most_own = 37

-- and of a good later one: `iv`, a tab and ten digits
abbrev pub most_iv : ℕ
most_iv = 13

-- No good first line is longer ..
pub own_size : (l : Line) → own_line l ≡ true → length l.bytes ≤ most_own
own_size l e =
    let a = own_is l e in
    let b = label_size (field 1 l) a.customer in
    let c = label_size (field 2 l) a.vehicle in
    rw a.made (omega (arith, length-append (field 1 l) (tab ∷ field 2 l)))

-- .. and no good later one.
pub iv_size : (l : Line) → iv_line l ≡ true → length l.bytes ≤ most_iv
iv_size l e =
    let a = iv_is l e in
    let b = width_size (field 1 l) a.width in
    rw a.made (omega arith)
