-- Laws.
-- How many different messages are ahead of one, and how that number changes when a message is taken out of the row or put in.
use Rattle.std.specs.Prelude.{ℕ, zero, suc, ◌+◌, ◌≤◌, ◌≡◌, refl, ◌≢◌, Bool, true, false, cond, not, ◌&&◌, ◌||◌, List, [], ◌∷◌, length, get_or, set}
use Rattle.std.proofs.Common.{sym, ◌∙◌, inl, inr, arith}
use Rattle.std.proofs.Math.Bool.{or-true}
use Rattle.laws.specs.Tests.{never}
use Rattle.bench.specs.Stations.{Bits}
use Rattle.bench.specs.Order.{ahead, same_bits}
use Rattle.bench.proofs.OrderLaws.{irreflexive, equal_or_ahead, ahead_some, same_true, same_refl, same_no, different_same}
use Rattle.bench.specs.Histories.{among, different_ahead}
use Rattle.bench.proofs.First.{none_ahead}
use Rattle.bench.specs.RoundStated.{first}
use Rattle.bench.specs.WaitStated.{without, NoRepeat}

-- ## Taking a message out

-- Another message stays.
pub without_other : (y b : Bits) (xs : List Bits) → y ≢ [] → y ≢ b → among y (without b xs) ≡ among y xs
unfolding without among
without_other y b [] n d = refl
without_other y b (x ∷ xs) n d = go (same_bits x b) refl (without_other y b xs n d)
  where
    go : (t : Bool) → same_bits x b ≡ t → among y (without b xs) ≡ among y xs
        → (same_bits y (cond t [] x) || among y (without b xs)) ≡ (same_bits y x || among y xs)
    go true e ih = rw (same_true x b e, different_same y [] n, different_same y b d) ih
    go false e ih = rw ih refl

-- what stands at a place afterwards
pub without_at : (i : ℕ) (b : Bits) (xs : List Bits) → get_or (without b xs) i [] ≡ cond (same_bits (get_or xs i []) b) [] (get_or xs i [])
unfolding without
without_at i b [] = go (same_bits [] b)
  where
    go : (t : Bool) → [] ≡ cond {A = Bits} t [] []
    go true = refl
    go false = refl
without_at zero b (x ∷ xs) = refl
without_at (suc i) b (x ∷ xs) = without_at i b xs

one_less : (u : Bool) (c d : ℕ) → c ≡ cond u 1 0 + d → cond (not u) 1 0 + c ≡ 1 + (0 + d)
one_less true c d e = omega arith
one_less false c d e = omega arith

as_many : (u v : Bool) (c d : ℕ) → c ≡ cond u 1 0 + d → cond v 1 0 + c ≡ cond u 1 0 + (cond v 1 0 + d)
as_many u false c d e = omega arith
as_many u true c d e = omega arith

-- With a message that is ahead taken out, one less is ahead.
pub without_count : (m b : Bits) (xs : List Bits) → ahead b m ≡ true → different_ahead m xs ≡ cond (among b xs) 1 0 + different_ahead m (without b xs)
unfolding without among different_ahead ahead
without_count m b [] p = refl
without_count m b (x ∷ xs) p = go (same_bits x b) refl (ahead x m) refl (without_count m b xs p)
  where
    go : (t : Bool) → same_bits x b ≡ t → (a : Bool) → ahead x m ≡ a → different_ahead m xs ≡ cond (among b xs) 1 0 + different_ahead m (without b xs)
        → cond (ahead x m && not (among x xs)) 1 0 + different_ahead m xs ≡ cond (same_bits b x || among b xs) 1 0 + different_ahead m (cond t [] x ∷ without b xs)
    go true e a f ih = rw (same_true x b e, p, same_refl b) (one_less (among b xs) (different_ahead m xs) (different_ahead m (without b xs)) ih)
    go false e true f ih =
        rw (f, different_same b x (λ q. same_no x b e (sym q)), without_other x b xs (ahead_some x m f) (same_no x b e))
        (as_many (among b xs) (not (among x xs)) (different_ahead m xs) (different_ahead m (without b xs)) ih)
    go false e false f ih = rw (f, different_same b x (λ q. same_no x b e (sym q))) (omega arith)

-- Where nothing is ahead, none is counted.
pub none_counted : (m : Bits) (xs : List Bits) → ((x : Bits) → among x xs ≡ true → ahead x m ≡ false) → different_ahead m xs ≡ 0
unfolding different_ahead among
none_counted m [] h = refl
none_counted m (x ∷ xs) h = rw (h x (rw (same_refl x))) (omega (arith, none_counted m xs (λ y k. h y (rw (k, or-true)))))

-- ## One round

-- A message that waits goes out now, and none is ahead of it; or the first is ahead of it, and one less is ahead afterwards.
pub data Turn (m : Bits) (xs : List Bits) : Type 0 where
  goes_now : first xs ≡ m → different_ahead m xs ≡ 0 → Turn m xs
  waits_on : ahead (first xs) m ≡ true → different_ahead m xs ≡ suc (different_ahead m (without (first xs) xs)) → Turn m xs

-- One of the two happens to each message that waits.
pub turn : (m : Bits) (xs : List Bits) → among m xs ≡ true → (first xs ≢ [] → among (first xs) xs ≡ true) → Turn m xs
turn m xs h f = go (ahead (first xs) m) refl
  where
    now : ahead (first xs) m ≡ false → first xs ≡ m
    now e = elim (equal_or_ahead (first xs) m e) [ inl q ↦ q | inr q ↦ never q (none_ahead m xs h) ]

    go : (t : Bool) → ahead (first xs) m ≡ t → Turn m xs
    go false e = goes_now (now e) (none_counted m xs (λ x k. rw (← now e) (none_ahead x xs k)))
    go true e = waits_on e (let n = without_count m (first xs) xs e in let a = f (ahead_some (first xs) m e) in let k = rw a at n in omega arith)

-- ## Putting a message in

-- Where all that is ahead of m in one row is in another too, no more are counted in the first.
pub count_within : (m : Bits) (xs ys : List Bits) → ((z : Bits) → ahead z m ≡ true → among z xs ≡ true → among z ys ≡ true)
    → different_ahead m xs ≤ different_ahead m ys
unfolding different_ahead among
count_within m [] ys h = omega arith
count_within m (x ∷ xs) ys h = go (ahead x m) refl (among x xs) refl (count_within m xs)
  where
    rest : (z : Bits) → ahead z m ≡ true → among z xs ≡ true → among z ys ≡ true
    rest z a k = h z a (rw (k, or-true))

    go : (a : Bool) → ahead x m ≡ a → (u : Bool) → among x xs ≡ u
        → ((zs : List Bits) → ((z : Bits) → ahead z m ≡ true → among z xs ≡ true → among z zs ≡ true) → different_ahead m xs ≤ different_ahead m zs)
        → cond (a && not u) 1 0 + different_ahead m xs ≤ different_ahead m ys
    go false e u f ih = let r = ih ys rest in omega arith
    go true e true f ih = let r = ih ys rest in omega arith
    go true e false f ih =
        rw (without_count m x ys e, h x e (rw (same_refl x)))
        (let r = ih (without x ys) (λ z a k. rw (without_other z x ys (ahead_some z m a) (λ q. never (rw q at k) f)) (rest z a k)) in omega arith)

among_set : (z : Bits) (xs : List Bits) (i : ℕ) (x : Bits) → among z (set xs i x) ≡ true → among z (x ∷ xs) ≡ true
unfolding among
among_set z [] i x h = never h refl
among_set z (y ∷ xs) zero x h = go (same_bits z x) h
  where
    go : (t : Bool) → (t || among z xs) ≡ true → (t || (same_bits z y || among z xs)) ≡ true
    go true h = refl
    go false h = rw (h, or-true)
among_set z (y ∷ xs) (suc i) x h = go (same_bits z x) (same_bits z y) h (among_set z xs i x)
  where
    go : (t u : Bool) → (u || among z (set xs i x)) ≡ true → (among z (set xs i x) ≡ true → (t || among z xs) ≡ true)
        → (t || (u || among z xs)) ≡ true
    go true u h ih = refl
    go false true h ih = refl
    go false false h ih = ih h

-- One message put in adds at most one, and only if it is ahead.
pub set_count : (m : Bits) (xs : List Bits) (i : ℕ) (x : Bits) → different_ahead m (set xs i x) ≤ cond (ahead x m) 1 0 + different_ahead m xs
unfolding different_ahead
set_count m xs i x = go (ahead x m) (not (among x xs)) (count_within m (set xs i x) (x ∷ xs) (λ z a k. among_set z xs i x k))
  where
    go : (a u : Bool) → different_ahead m (set xs i x) ≤ cond (a && u) 1 0 + different_ahead m xs
        → different_ahead m (set xs i x) ≤ cond a 1 0 + different_ahead m xs
    go false u h = h
    go true true h = h
    go true false h = omega arith

-- A place made empty adds none.
pub unset_count : (m : Bits) (xs : List Bits) (i : ℕ) → different_ahead m (set xs i []) ≤ different_ahead m xs
unfolding ahead
unset_count m xs i = omega (arith, set_count m xs i [])

keeps_among : (z m : Bits) (xs : List Bits) (i : ℕ) → z ≢ [] → get_or xs i [] ≡ [] → among z xs ≡ true → among z (set xs i m) ≡ true
unfolding among
keeps_among z m [] i n e k = k
keeps_among z m (y ∷ xs) zero n e k = let q : among z xs ≡ true = rw (e, different_same z [] n) at k in rw (q, or-true)
keeps_among z m (y ∷ xs) (suc i) n e k = go (same_bits z y) k (keeps_among z m xs i n e)
  where
    go : (t : Bool) → (t || among z xs) ≡ true → (among z xs ≡ true → among z (set xs i m) ≡ true) → (t || among z (set xs i m)) ≡ true
    go true k ih = refl
    go false k ih = ih k

-- The loading of m itself changes nothing: A may be counted before it or after it.
pub own_count : (m : Bits) (xs : List Bits) (i : ℕ) → get_or xs i [] ≡ [] → different_ahead m (set xs i m) ≡ different_ahead m xs
own_count m xs i e =
    omega (
      arith,
      rw irreflexive at (set_count m xs i m),
      count_within m xs (set xs i m) (λ z a k. keeps_among z m xs i (ahead_some z m a) e k),
    )

-- ## What is counted

all_counted : (m : Bits) (ds : List Bits) → NoRepeat ds → ((z : Bits) → among z ds ≡ true → ahead z m ≡ true) → different_ahead m ds ≡ length ds
unfolding different_ahead among
all_counted m [] n h = refl
all_counted m (x ∷ xs) n h = rw (h x (rw (same_refl x)), n.0) (omega (arith, all_counted m xs n.1 (λ z k. h z (rw (k, or-true)))))

-- "the different messages ahead of it": the length of any list that has each of them once and nothing else.
pub counts_different : (m : Bits) (xs ds : List Bits) → NoRepeat ds → ((z : Bits) → among z ds ≡ true → ahead z m ≡ true)
    → ((z : Bits) → ahead z m ≡ true → among z ds ≡ among z xs) → different_ahead m xs ≡ length ds
counts_different m xs ds n h s =
    omega (
      arith,
      all_counted m ds n h,
      count_within m ds xs (λ z a k. sym (s z a) ∙ k),
      count_within m xs ds (λ z a k. s z a ∙ k),
    )
