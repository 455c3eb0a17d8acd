-- Laws.
-- `ahead` is document 01's sentence, and a strict order that is total on different messages.
use Rattle.std.specs.Prelude.{◌≡◌, refl, ◌⊎◌, ◌≢◌, ◌↔◌, Bool, true, false, [], ◌∷◌, ◌++◌}
use Rattle.std.proofs.Common.{ap, inl, inr}
use Rattle.laws.specs.Tests.{never}
use Rattle.bench.specs.Stations.{Bits}
use Rattle.bench.specs.Order.{Ahead, has_zero, goes_on, ahead, same_bits}

-- ## The test is the sentence

more : (b : Bool) (x y : Bits) → Ahead x y → Ahead (b ∷ x) (b ∷ y)
more b x y (has_zero same xs ys e f) = has_zero (b ∷ same) xs ys (ap (λ (r : Bits). b ∷ r) e) (ap (λ (r : Bits). b ∷ r) f)
more b x y (goes_on c xs e) = goes_on c xs (ap (λ (r : Bits). b ∷ r) e)

why : (x y : Bits) → ahead x y ≡ true → Ahead x y
unfolding ahead
why [] y h = never h refl
why (b ∷ x) [] h = goes_on b x refl
why (false ∷ x) (true ∷ y) h = has_zero [] x y refl refl
why (true ∷ x) (false ∷ y) h = never h refl
why (false ∷ x) (false ∷ y) h = more false x y (why x y h)
why (true ∷ x) (true ∷ y) h = more true x y (why x y h)

by_zero : (same xs ys : Bits) → ahead (same ++ (false ∷ xs)) (same ++ (true ∷ ys)) ≡ true
unfolding ahead
by_zero [] xs ys = refl
by_zero (true ∷ same) xs ys = by_zero same xs ys
by_zero (false ∷ same) xs ys = by_zero same xs ys

by_length : (y : Bits) (b : Bool) (xs : Bits) → ahead (y ++ (b ∷ xs)) y ≡ true
unfolding ahead
by_length [] b xs = refl
by_length (true ∷ y) b xs = by_length y b xs
by_length (false ∷ y) b xs = by_length y b xs

because : (x y : Bits) → Ahead x y → ahead x y ≡ true
because x y (has_zero same xs ys e f) = rw (e, f) (by_zero same xs ys)
because x y (goes_on b xs e) = rw e (by_length y b xs)

-- The test says true exactly where the sentence holds.
pub ahead_is : (x y : Bits) → (ahead x y ≡ true) ↔ Ahead x y
ahead_is x y = (why x y, because x y)

-- ## A strict order

-- No message is ahead of itself.
pub irreflexive : (x : Bits) → ahead x x ≡ false
unfolding ahead
irreflexive [] = refl
irreflexive (true ∷ x) = irreflexive x
irreflexive (false ∷ x) = irreflexive x

-- What is ahead of a message is ahead of all that the message is ahead of.
pub transitive : (x y z : Bits) → ahead x y ≡ true → ahead y z ≡ true → ahead x z ≡ true
unfolding ahead
transitive [] y z p q = p
transitive (b ∷ x) [] z p q = never q refl
transitive (b ∷ x) (c ∷ y) [] p q = refl
transitive (true ∷ x) (true ∷ y) (true ∷ z) p q = transitive x y z p q
transitive (true ∷ x) (true ∷ y) (false ∷ z) p q = q
transitive (true ∷ x) (false ∷ y) (c ∷ z) p q = never p refl
transitive (false ∷ x) (true ∷ y) (true ∷ z) p q = refl
transitive (false ∷ x) (true ∷ y) (false ∷ z) p q = never q refl
transitive (false ∷ x) (false ∷ y) (true ∷ z) p q = refl
transitive (false ∷ x) (false ∷ y) (false ∷ z) p q = transitive x y z p q

-- Of two messages no more than one is ahead of the other.
pub asymmetric : (x y : Bits) → ahead x y ≡ true → ahead y x ≡ false
asymmetric x y p = go (ahead y x) refl
  where
    go : (b : Bool) → ahead y x ≡ b → ahead y x ≡ false
    go false e = e
    go true e = never (transitive x y x p e) (irreflexive x)

-- A message that is not ahead of another is equal to it, or the other is ahead.
pub equal_or_ahead : (x y : Bits) → ahead x y ≡ false → (x ≡ y) ⊎ (ahead y x ≡ true)
unfolding ahead
equal_or_ahead [] [] p = inl refl
equal_or_ahead [] (c ∷ y) p = inr refl
equal_or_ahead (b ∷ x) [] p = never refl p
equal_or_ahead (true ∷ x) (true ∷ y) p = elim (equal_or_ahead x y p) [ inl e ↦ inl (ap (λ (r : Bits). true ∷ r) e) | inr h ↦ inr h ]
equal_or_ahead (true ∷ x) (false ∷ y) p = inr refl
equal_or_ahead (false ∷ x) (true ∷ y) p = never refl p
equal_or_ahead (false ∷ x) (false ∷ y) p = elim (equal_or_ahead x y p) [ inl e ↦ inl (ap (λ (r : Bits). false ∷ r) e) | inr h ↦ inr h ]

-- Of two different messages one is ahead of the other.
pub total_on_different : (x y : Bits) → x ≢ y → (ahead x y ≡ true) ⊎ (ahead y x ≡ true)
total_on_different x y n = go (ahead x y) refl
  where
    go : (b : Bool) → ahead x y ≡ b → (ahead x y ≡ true) ⊎ (ahead y x ≡ true)
    go true e = inl e
    go false e = elim (equal_or_ahead x y e) [ inl q ↦ absurd (n q) | inr h ↦ inr h ]

-- Not ahead of y, which is not ahead of z: not ahead of z.
pub not_ahead_transitive : (x y z : Bits) → ahead x y ≡ false → ahead y z ≡ false → ahead x z ≡ false
not_ahead_transitive x y z p q = go (ahead x z) refl (equal_or_ahead x y p)
  where
    go : (b : Bool) → ahead x z ≡ b → (x ≡ y) ⊎ (ahead y x ≡ true) → ahead x z ≡ false
    go false e s = e
    go true e (inl h) = rw h q
    go true e (inr h) = never (transitive y x z h e) q

-- A message that is ahead of another differs from it, and has bits.
pub ahead_differs : (x y : Bits) → ahead x y ≡ true → x ≢ y
ahead_differs x y p e = never (rw e at p) (irreflexive y)

-- What is ahead of anything has bits.
pub ahead_some : (x y : Bits) → ahead x y ≡ true → x ≢ []
unfolding ahead
ahead_some x y p e = never (rw e at p) refl

-- ## Equal messages

-- The test for equal bits says true for equal bits alone ..
pub same_true : (x y : Bits) → same_bits x y ≡ true → x ≡ y
same_true [] [] e = refl
same_true [] (c ∷ y) e = never e refl
same_true (b ∷ x) [] e = never e refl
same_true (true ∷ x) (true ∷ y) e = ap (λ (r : Bits). true ∷ r) (same_true x y e)
same_true (true ∷ x) (false ∷ y) e = never e refl
same_true (false ∷ x) (true ∷ y) e = never e refl
same_true (false ∷ x) (false ∷ y) e = ap (λ (r : Bits). false ∷ r) (same_true x y e)

-- .. and for all of them.
pub same_refl : (x : Bits) → same_bits x x ≡ true
same_refl [] = refl
same_refl (true ∷ x) = same_refl x
same_refl (false ∷ x) = same_refl x

-- Where it says false the two differ ..
pub same_no : (x y : Bits) → same_bits x y ≡ false → x ≢ y
same_no x y e q = never (same_refl y) (rw q at e)

-- .. and it says so of any two that do.
pub different_same : (x y : Bits) → x ≢ y → same_bits x y ≡ false
different_same x y n = go (same_bits x y) refl
  where
    go : (b : Bool) → same_bits x y ≡ b → same_bits x y ≡ false
    go false e = e
    go true e = absurd (n (same_true x y e))
