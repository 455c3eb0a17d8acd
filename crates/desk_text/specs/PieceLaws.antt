-- Laws.
-- Laws of pieces and of lines: where the first one ends, that every text is its pieces put together again, and what it takes
-- for a text to have one piece only.
use Rattle.std.specs.Prelude.{ℕ, suc, ◌≤◌, ◌<◌, ◌≡◌, refl, Bool, true, false, cond, ◌&&◌, List, [], ◌∷◌, eqb, length, take, drop}
use Rattle.std.proofs.Common.{◌∙◌, arith, eqb-true}
use Rattle.std.proofs.Math.Bool.{and-false}
use Rattle.desk_text.specs.Places.{index_of, index_after}
use Rattle.laws.specs.Tests.{never}
use Rattle.label.specs.Labels.{every}
use Rattle.desk_text.specs.Grammar.{newline, longer, pieces, same}
use Rattle.desk_text.specs.Input.{shut, unshut, onto, lines}
use Rattle.desk_text.specs.Stated.{joined}

-- ## The first piece

-- The first b stands within the text, or nowhere.
pub index_le : (b : ℕ) (s : List ℕ) → index_of b s ≤ length s
unfolding index_of index_after
index_le b [] = omega arith
index_le b (x ∷ xs) = go (eqb x b) (index_le b xs)
  where
    go : (t : Bool) → index_of b xs ≤ length xs → index_after t (index_of b xs) ≤ suc (length xs)
    go true h = omega arith
    go false h = omega arith

-- The first piece ends at the first b, and the pieces after it are those of what follows.
pub pieces_first : (b : ℕ) (s : List ℕ) → index_of b s < length s
    → pieces b s ≡ take (index_of b s) s ∷ pieces b (drop (suc (index_of b s)) s)
unfolding index_of index_after pieces
pieces_first b [] h = absurd (omega arith)
pieces_first b (x ∷ xs) h = go (eqb x b) (pieces_first b xs) h
  where
    go : (t : Bool) → (index_of b xs < length xs → pieces b xs ≡ take (index_of b xs) xs ∷ pieces b (drop (suc (index_of b xs)) xs))
        → index_after t (index_of b xs) < suc (length xs)
        → cond t ([] ∷ pieces b xs) (longer x (pieces b xs))
        ≡ take (index_after t (index_of b xs)) (x ∷ xs) ∷ pieces b (drop (suc (index_after t (index_of b xs))) (x ∷ xs))
    go true ih k = refl
    go false ih k = rw (ih (omega arith))

-- Where there is no b the whole is one piece.
pub pieces_none : (b : ℕ) (s : List ℕ) → index_of b s ≡ length s → pieces b s ≡ s ∷ []
unfolding index_of index_after pieces
pieces_none b [] h = refl
pieces_none b (x ∷ xs) h = go (eqb x b) (pieces_none b xs) h
  where
    go : (t : Bool) → (index_of b xs ≡ length xs → pieces b xs ≡ xs ∷ []) → index_after t (index_of b xs) ≡ suc (length xs)
        → cond t ([] ∷ pieces b xs) (longer x (pieces b xs)) ≡ (x ∷ xs) ∷ []
    go true ih k = absurd (omega arith)
    go false ih k = rw (ih (omega arith))

-- ## The first line

-- The first line ends at the first newline, and the lines after it are those of what follows.
pub lines_first : (s : List ℕ) → index_of newline s < length s
    → lines s ≡ shut (take (index_of newline s) s) ∷ lines (drop (suc (index_of newline s)) s)
unfolding index_of index_after lines
lines_first [] h = absurd (omega arith)
lines_first (x ∷ xs) h = go (eqb x newline) (lines_first xs) h
  where
    go : (t : Bool)
        → (index_of newline xs < length xs → lines xs ≡ shut (take (index_of newline xs) xs) ∷ lines (drop (suc (index_of newline xs)) xs))
        → index_after t (index_of newline xs) < suc (length xs)
        → cond t (shut [] ∷ lines xs) (onto x (lines xs))
        ≡ shut (take (index_after t (index_of newline xs)) (x ∷ xs)) ∷ lines (drop (suc (index_after t (index_of newline xs))) (x ∷ xs))
    go true ih k = refl
    go false ih k = rw (ih (omega arith))

-- Where there is no newline the whole is one line that none closes, or none.
pub lines_none : (s : List ℕ) → 0 < length s → index_of newline s ≡ length s → lines s ≡ unshut s ∷ []
unfolding index_of index_after lines
lines_none [] h e = absurd (omega arith)
lines_none (x ∷ []) h e = go (eqb x newline) e
  where
    go : (t : Bool) → index_after t 0 ≡ 1
        → cond t (shut [] ∷ []) (unshut (x ∷ []) ∷ []) ≡ unshut (x ∷ []) ∷ []
    go true e = absurd (omega arith)
    go false e = refl
lines_none (x ∷ y ∷ ys) h e = go (eqb x newline) (lines_none (y ∷ ys) (omega arith)) e
  where
    go : (t : Bool) → (index_of newline (y ∷ ys) ≡ suc (length ys) → lines (y ∷ ys) ≡ unshut (y ∷ ys) ∷ [])
        → index_after t (index_of newline (y ∷ ys)) ≡ suc (suc (length ys))
        → cond t (shut [] ∷ lines (y ∷ ys)) (onto x (lines (y ∷ ys))) ≡ unshut (x ∷ y ∷ ys) ∷ []
    go true ih k = absurd (omega arith)
    go false ih k = rw (ih (omega arith))

-- ## One piece or several

-- A text has one piece; or it has several, and then a test that b fails does not hold of its every byte.
pub data Shape (test : ℕ → Bool) (b : ℕ) (s : List ℕ) : Type 0 where
  one : pieces b s ≡ s ∷ [] → Shape test b s
  several : (p q : List ℕ) (ps : List (List ℕ)) → pieces b s ≡ p ∷ q ∷ ps → every test s ≡ false → Shape test b s

-- Every text is one of the two.
pub shape : (test : ℕ → Bool) (b : ℕ) → test b ≡ false → (s : List ℕ) → Shape test b s
unfolding pieces every
shape test b z [] = one refl
shape test b z (x ∷ xs) = go (eqb x b) refl (shape test b z xs)
  where
    here : eqb x b ≡ true → (test x && every test xs) ≡ false
    here e = rw (eqb-true x b e, z)

    later : every test xs ≡ false → (test x && every test xs) ≡ false
    later e = rw (e, and-false)

    go : (t : Bool) → eqb x b ≡ t → Shape test b xs → Shape test b (x ∷ xs)
    go true e (one s) = several [] xs [] (rw (e, s)) (here e)
    go true e (several p q ps s n) = several [] p (q ∷ ps) (rw (e, s)) (here e)
    go false e (one s) = one (rw (e, s))
    go false e (several p q ps s n) = several (x ∷ p) q ps (rw (e, s)) (later n)

-- ## Put together again

-- Every text is its pieces put together again.
pub joined_pieces : (b : ℕ) (s : List ℕ) → joined b (pieces b s) ≡ s
unfolding pieces
joined_pieces b [] = refl
joined_pieces b (x ∷ xs) = go (eqb x b) refl (pieces b xs) (shape (λ y. false) b refl xs) (joined_pieces b xs)
  where
    put : (p : List ℕ) (ps : List (List ℕ)) → joined b ((x ∷ p) ∷ ps) ≡ x ∷ joined b (p ∷ ps)
    put p [] = refl
    put p (q ∷ ps) = refl

    first : (fs : List (List ℕ)) → Shape (λ y. false) b xs → joined b (longer x (pieces b xs)) ≡ x ∷ joined b (pieces b xs)
    first fs (one e) = rw e
    first fs (several p q ps e n) = rw e (put p (q ∷ ps))

    front : (fs : List (List ℕ)) → Shape (λ y. false) b xs → joined b ([] ∷ pieces b xs) ≡ b ∷ joined b (pieces b xs)
    front fs (one e) = rw e
    front fs (several p q ps e n) = rw e

    go : (t : Bool) → eqb x b ≡ t → (fs : List (List ℕ)) → Shape (λ y. false) b xs → joined b (pieces b xs) ≡ xs
        → joined b (cond t ([] ∷ pieces b xs) (longer x (pieces b xs))) ≡ x ∷ xs
    go true e fs h ih = front fs h ∙ rw (ih, eqb-true x b e)
    go false e fs h ih = first fs h ∙ rw ih

-- Texts that pass the test byte by byte are the same text.
pub same_is : (a b : List ℕ) → same a b ≡ true → a ≡ b
unfolding same
same_is [] [] h = refl
same_is [] (y ∷ b) h = never h refl
same_is (x ∷ a) [] h = never h refl
same_is (x ∷ a) (y ∷ b) h = go (eqb x y) refl h (same_is a b)
  where
    go : (t : Bool) → eqb x y ≡ t → (t && same a b) ≡ true → (same a b ≡ true → a ≡ b) → x ∷ a ≡ y ∷ b
    go true e k ih = rw (eqb-true x y e, ih k)
    go false e k ih = never k refl
