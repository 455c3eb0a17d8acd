-- The search for a byte: the first place of a byte is where the library's `position` finds it.
use Rattle.std.specs.Prelude.{ℕ, None, Some, ◌+◌, Bool, true, false, ◌≡◌, ◌<◌, ◌≤◌, refl, cond, List, length, eqb, ltb, position, MatchOption, Option}
use Rattle.std.specs.List.{position_or_len}
use Rattle.std.proofs.Common.{arith, ltb-true, ltb-false}
use Rattle.std.proofs.lemmas.List.Recursion.{is_position_or_len}
use Rattle.std.proofs.iter.Yields.{fronts}
use Rattle.std.specs.Fn.{Called}
use Rattle.std.specs.Iterator.{YieldsThen}
use Rattle.std.specs.List.{FoldsTo}
use Rattle.std.specs.Slice.Iter.{iter_rest}
use Rattle.std.proofs.Common.{Iter}
use denote.Param.Members.{Mut}
use denote.Ref.{Bor}
use Rattle.std.proofs.lemmas.Iterator.{YieldsList-from_slice}
use Rattle.std.proofs.lemmas.Iterator.Search.{position_from_yields_List}
use Rattle.desk_text.specs.Places.{index_after, index_of}
use Rattle.desk_text.specs.PieceLaws.{index_le}

-- counting to the first place that passes is counting to the first such byte
by_test : (b : ℕ) (s : List ℕ) → index_of b s ≡ position_or_len (λ x. eqb x b) s
unfolding index_of index_after
by_test b s = is_position_or_len (index_of b) (λ x. eqb x b) refl step s
  where
    step : (x : ℕ) (xs : List ℕ) → index_after (eqb x b) (index_of b xs) ≡ cond (eqb x b) 0 (1 + index_of b xs)
    step x xs = go (eqb x b)
      where
        go : (t : Bool) → index_after t (index_of b xs) ≡ cond t 0 (1 + index_of b xs)
        go true = refl
        go false = omega arith

-- The library's first place that passes is the first such byte's, or there is none.
pub place_of_position : (b : ℕ) (s : List ℕ) (r : Option ℕ) → r ≡ position (λ x. eqb x b) s
    → MatchOption r (index_of b s ≡ length s) (λ m. (m ≡ index_of b s) × (m < length s))
place_of_position b s r e = rw e (go (ltb (index_of b s) (length s)) refl)
  where
    go : (t : Bool) → ltb (index_of b s) (length s) ≡ t → MatchOption (position (λ x. eqb x b) s) (index_of b s ≡ length s) (λ m. (m ≡ index_of b s) × (m < length s))
    go true h = rw (← by_test b s, h) (refl, ltb-true (index_of b s) (length s) h)
    go false h =
        let l : length s ≤ index_of b s = ltb-false (index_of b s) (length s) h in
        rw (← by_test b s, h) (omega (arith, index_le b s))

-- What a run of the library's `position` over s says, where its test is whether a byte is b.
pub place_found : {F : Type 0} {g : Mut F (Bor ℕ × Unit {0}) Bool} {i : Iter ℕ} (b : ℕ) (s : List ℕ) (u : Iter ℕ) (f : F) (r : Option ℕ)
    → (xs : List (Bor ℕ)) × (o : Option (Bor ℕ)) × (j : F) × YieldsThen fronts i xs o u × FoldsTo (λ p x q. Called g p (x, tt) false q) f xs j × MatchOption o (r ≡ None) (λ x. (r ≡ Some (length xs)) × ((h : F) × Called g j (x, tt) true h))
    → iter_rest i ≡ s
    → ((x : Bor ℕ) (y : Bool) (q : F) → Called g f (x, tt) y q → (q ≡ f) × (y ≡ eqb x.now b))
    → MatchOption r (index_of b s ≡ length s) (λ m. (m ≡ index_of b s) × (m < length s))
place_found b s u f r ran e k = place_of_position b s r (position_from_yields_List (λ x. eqb x b) u f r ran (YieldsList-from_slice s e) k)
