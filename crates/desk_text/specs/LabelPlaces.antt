-- Laws.
-- Where the labels of a good input stand in its bytes: the customer's from byte 4 on, the vehicle's after it and a tab.
use Rattle.std.specs.Prelude.{ℕ, suc, ◌+◌, ◌≤◌, ◌<◌, ◌≡◌, refl, List, [], ◌∷◌, ◌++◌, ◌⊎◌, length, take, drop}
use Rattle.std.proofs.Common.{sym, ap, ◌∙◌, append_assoc, append-nil, inl, inr, arith, length-append, take-append-drop, take_at, drop_at}
use Rattle.desk_text.specs.Places.{index_of}
use Rattle.laws.specs.Tests.{up_to}
use Rattle.desk_text.specs.Grammar.{newline, tab}
use Rattle.desk_text.specs.Input.{lines, own, first_bad, first_line, customer_of, vehicle_of}
use Rattle.desk_text.specs.PieceLaws.{index_le, lines_first, lines_none}
use Rattle.desk_text.specs.Whole.{good_own}

-- A text begins with the bytes of its first line.
record Front (s : List ℕ) : Type 0 where
  rest : List ℕ
  front : s ≡ (first_line (lines s)).bytes ++ rest

front_is : (s : List ℕ) → Front s
unfolding lines
front_is [] = record { rest = []; front = refl }
front_is (x ∷ xs) = go (up_to (length (x ∷ xs)) (index_of newline (x ∷ xs)))
  where
    go : (length (x ∷ xs) ≤ index_of newline (x ∷ xs)) ⊎ (index_of newline (x ∷ xs) < length (x ∷ xs)) → Front (x ∷ xs)
    go (inl h) =
        let e = lines_none (x ∷ xs) (omega arith) (omega (arith, index_le newline (x ∷ xs))) in
        record { rest = []; front = rw (e, append-nil (x ∷ xs)) }
    go (inr h) =
        let e = lines_first (x ∷ xs) h in
        record { rest = drop (index_of newline (x ∷ xs)) (x ∷ xs); front = rw (e, take-append-drop (index_of newline (x ∷ xs)) (x ∷ xs)) }

-- the place of the customer's label
abbrev pub customer_place : ℕ
customer_place = 4

-- The labels stand there, and within the input.
pub record Stand (s customer vehicle : List ℕ) : Type 0 where
  pub customer_stands : take (length customer) (drop customer_place s) ≡ customer
  pub vehicle_stands : take (length vehicle) (drop (customer_place + length customer + 1) s) ≡ vehicle
  pub inside : customer_place + length customer + 1 + length vehicle ≤ length s

stand : (c v t : List ℕ) → Stand (own ++ (tab ∷ (c ++ (tab ∷ (v ++ t))))) c v
stand c v t =
    record {
      customer_stands = take_at c (tab ∷ (v ++ t)) (length c) refl;
      vehicle_stands = ap (take (length v)) after ∙ take_at v t (length v) refl;
      inside = omega (arith, length-append c (tab ∷ (v ++ t)), length-append v t);
    }
  where
    after : drop (customer_place + length c + 1) (own ++ (tab ∷ (c ++ (tab ∷ (v ++ t))))) ≡ v ++ t
    after =
        let n : customer_place + length c + 1 ≡ suc (suc (suc (suc (length c + 1)))) = omega arith in
        let p : (c ++ (tab ∷ [])) ++ (v ++ t) ≡ c ++ (tab ∷ (v ++ t)) = append_assoc c (tab ∷ []) (v ++ t) in
        rw (n, ← p) (drop_at (c ++ (tab ∷ [])) (v ++ t) (length c + 1) (length-append c (tab ∷ [])))

-- Those of a good input do.
pub labels_stand : (s : List ℕ) → first_bad (lines s) ≡ 0 → Stand s (customer_of (lines s)) (vehicle_of (lines s))
labels_stand s e =
    let f = front_is s in
    let o = good_own (lines s) e in
    let c : List ℕ = customer_of (lines s) in
    let v : List ℕ = vehicle_of (lines s) in
    rw (whole c v f.rest f.front o.made) at (stand c v f.rest)
  where
    whole : (c v t : List ℕ) → s ≡ (first_line (lines s)).bytes ++ t → (first_line (lines s)).bytes ≡ own ++ (tab ∷ (c ++ (tab ∷ v)))
        → own ++ (tab ∷ (c ++ (tab ∷ (v ++ t)))) ≡ s
    whole c v t p q =
        sym (p ∙ ap (λ (l : List ℕ). l ++ t) q ∙ ap (λ (l : List ℕ). own ++ (tab ∷ l)) (append_assoc c (tab ∷ v) t))
