-- Laws.
-- Laws of loops over an array: one for every fold, which goes from the end, and one for every filling, which goes from the
-- start.
use Prim.Native.Nat.{ℕ, zero, suc, ◌+◌, ◌-◌, ◌≤◌, ◌<◌}
use Rattle.std.specs.Prelude.{◌≡◌, get_or, set}
use Rattle.std.proofs.Math.Path.{refl, sym, ap}
use Rattle.std.proofs.Common.{ap₂, ◌∙◌, drop-cons}
use mathlib.Core.List.{List, [], ◌∷◌, ◌++◌, map, append-nil}
use native.Mathlib.Omega.{arith}
use Rattle.std.proofs.Math.Numerals.{add-one}
use Rattle.std.proofs.Math.ListN.{length, drop, length-append, length-drop, drop_of_length-le}
use Rattle.std.proofs.lemmas.List.{set_at, get_or_at, set-get_or}

-- what g gives for the n places from i on
unfoldable pub from : {A : Type 0} → (ℕ → A) → ℕ → ℕ → List A
from g i zero = []
from g i (suc n) = g i ∷ from g (suc i) n

-- There are n of them.
pub from_length : {A : Type 0} (g : ℕ → A) (i n : ℕ) → length (from g i n) ≡ n
unfolding from
from_length g i zero = refl
from_length g i (suc n) = ap suc (from_length g (suc i) n)

-- Where two give the same for each place, the lists are the same.
pub from_same : {A : Type 0} (g h : ℕ → A) (i n : ℕ) → ((p : ℕ) → i ≤ p → p < i + n → g p ≡ h p) → from g i n ≡ from h i n
unfolding from
from_same g h i zero e = refl
from_same {A} g h i (suc n) e =
    ap₂ (λ (x : A) (xs : List A). x ∷ xs) (e i (omega arith) (omega arith)) (from_same g h (suc i) n (λ p lo hi. e p (omega arith) (omega arith)))

-- The one at place p is that of i + p.
pub from_get_d : {A : Type 0} (g : ℕ → A) (i n p : ℕ) (d : A) → p < n → get_or (from g i n) p d ≡ g (i + p)
unfolding from
from_get_d g i zero p d h = absurd (omega arith)
from_get_d g i (suc n) zero d h = let e : i + 0 ≡ i = omega arith in rw e
from_get_d g i (suc n) (suc p) d h = let e : i + suc p ≡ suc i + p = omega arith in rw e (from_get_d g (suc i) n p d (omega arith))

-- A change made to each of them.
pub map_from : {A B : Type 0} (f : A → B) (g : ℕ → A) (i n : ℕ) → map f (from g i n) ≡ from (λ (p : ℕ). f (g p)) i n
unfolding from
map_from f g i zero = refl
map_from {A} {B} f g i (suc n) = ap (λ (r : List B). f (g i) ∷ r) (map_from f g (suc i) n)

-- A list is what its elements give for its places.
pub from_list : {A B : Type 0} (f : A → B) (l : List A) (d : A) → from (λ (p : ℕ). f (get_or l p d)) 0 (length l) ≡ map f l
unfolding from
from_list {A} {B} f l d = go [] l
  where
    go : (past l : List A) → from (λ (p : ℕ). f (get_or (past ++ l) p d)) (length past) (length l) ≡ map f l
    go past [] = refl
    go past (x ∷ l) =
        let n : suc (length past) ≡ length (past ++ (x ∷ [])) = omega (arith, length-append past (x ∷ [])) in
        ap₂ (λ (y : B) (ys : List B). y ∷ ys) (ap f (get_or_at past x l d (length past) refl))
        (ap₂ (λ (r : List A) (k : ℕ). from (λ (p : ℕ). f (get_or r p d)) k (length l)) (snoc past x l) n ∙ go (past ++ (x ∷ [])) l)
      where
        snoc : (a : List A) (x : A) (b : List A) → a ++ (x ∷ b) ≡ (a ++ (x ∷ [])) ++ b
        snoc [] x b = refl
        snoc (y ∷ a) x b = ap (λ (r : List A). y ∷ r) (snoc a x b)

-- What stands past the end does not matter before it.
pub get_d_any : {A : Type 0} (l : List A) (i : ℕ) (d e : A) → i < length l → get_or l i d ≡ get_or l i e
get_d_any [] i d e h = absurd (omega arith)
get_d_any (x ∷ l) zero d e h = refl
get_d_any (x ∷ l) (suc i) d e h = get_d_any l i d e (omega arith)

-- ## A fold, from the end

-- f of a list, made from its end by g
module _ {A B : Type 0} (f : List A → B) (g : B → A → B) (one : (x : A) (xs : List A) → g (f xs) x ≡ f (x ∷ xs)) (l : List A) where
  -- after the last nothing is left
  pub fold_start : (n : ℕ) → length l ≤ n → f [] ≡ f (drop n l)
  fold_start n h = ap f (sym (drop_of_length-le l h))

  -- one element more
  pub fold_more : (i : ℕ) (d : A) → 0 < i → i ≤ length l → (v u : B) → v ≡ f (drop i l) → u ≡ g v (get_or l (i - 1) d) → u ≡ f (drop (i - 1) l)
  fold_more i d lo hi v u e q =
      let p : i ≡ suc (i - 1) = omega arith in
      let c : drop (i - 1) l ≡ get_or l (i - 1) d ∷ drop (suc (i - 1)) l = drop-cons l (i - 1) d (omega arith) in
      q ∙ ap (λ (x : B). g x (get_or l (i - 1) d)) (e ∙ ap (λ n. f (drop n l)) p) ∙ one (get_or l (i - 1) d) (drop (suc (i - 1)) l) ∙ ap f (sym c)

  -- all of them
  pub fold_all : (i : ℕ) → i ≤ 0 → (v : B) → v ≡ f (drop i l) → v ≡ f l
  fold_all i h v e = let p : i ≡ 0 = omega arith in e ∙ ap (λ n. f (drop n l)) p

-- ## A filling, from the start

-- the list l with what g gives in its first i places
unfoldable pub filled : {A : Type 0} → (ℕ → A) → List A → ℕ → List A
filled g l i = from g 0 i ++ drop i l

module _ {A : Type 0} (g : ℕ → A) (l : List A) where
  -- none yet
  pub fill_start : l ≡ filled g l 0
  unfolding filled from
  fill_start = refl

  from_snoc : (i n : ℕ) → from g i (suc n) ≡ from g i n ++ (g (i + n) ∷ [])
  unfolding from
  from_snoc i zero = let e : i + 0 ≡ i = omega arith in rw e
  from_snoc i (suc n) = let e : i + suc n ≡ suc i + n = omega arith in rw e (ap (λ (r : List A). g i ∷ r) (from_snoc (suc i) n))

  -- what has not been reached is as it was
  pub fill_ahead : (i : ℕ) (d : A) → i < length l → get_or (filled g l i) i d ≡ get_or l i d
  unfolding filled
  fill_ahead i d h = rw (drop-cons l i d h) (get_or_at (from g 0 i) (get_or l i d) (drop (suc i) l) d i (from_length g 0 i))

  -- one place more
  pub fill_more : (i : ℕ) (d x : A) → i < length l → x ≡ g i → set (filled g l i) i x ≡ filled g l (i + 1)
  unfolding filled
  fill_more i d x h e =
      let z : 0 + i ≡ i = omega arith in
      rw (drop-cons l i d h, e, add-one i, from_snoc 0 i, z)
      (set_at (from g 0 i) (get_or l i d) (drop (suc i) l) (g i) i (from_length g 0 i) ∙ sym (snoc (from g 0 i)))
    where
      snoc : (a : List A) → (a ++ (g i ∷ [])) ++ drop (suc i) l ≡ a ++ (g i ∷ drop (suc i) l)
      snoc [] = refl
      snoc (y ∷ a) = ap (λ (r : List A). y ∷ r) (snoc a)

  -- As many elements as there were.
  pub fill_length : (i : ℕ) → i ≤ length l → length (filled g l i) ≡ length l
  unfolding filled
  fill_length i h = omega (arith, length-append (from g 0 i) (drop i l), from_length g 0 i, length_dropped)
    where
      length_dropped : length (drop i l) ≡ length l - i
      length_dropped = length-drop i l

  -- all of them
  pub fill_all : (i n : ℕ) → length l ≡ n → n ≤ i → i ≤ n → filled g l i ≡ from g 0 n
  unfolding filled
  fill_all i n e lo hi =
      let k : i ≡ n = omega arith in
      rw (k, drop_of_length-le l {i = n} (omega arith)) (append-nil (from g 0 n))

-- A filling that stops where the list has what belongs there already.
pub fill_rest : {A : Type 0} (g : ℕ → A) (l : List A) (d : A) (n m : ℕ) → length l ≡ m → n ≤ m → ((p : ℕ) → n ≤ p → p < m → g p ≡ get_or l p d) → filled g l n ≡ from g 0 m
fill_rest {A} g l d n m e h own = go (m - n) n (omega arith) (omega arith)
  where
    go : (k i : ℕ) → i + k ≡ m → n ≤ i → filled g l i ≡ from g 0 m
    go zero i q lo = fill_all g l i m e (omega arith) (omega arith)
    go (suc k) i q lo =
        sym (set-get_or (filled g l i) i d)
        ∙ ap (set (filled g l i) i) (fill_ahead g l i d (omega arith) ∙ sym (own i lo (omega arith)))
        ∙ fill_more g l i d (g i) (omega arith) refl
        ∙ go k (i + 1) (omega arith) (omega arith)
