-- Laws.
-- "The earliest interval with a fault decides": what is known of the interval that an answer stands on, and which answer an
-- interval gives.
use Rattle.std.specs.Prelude.{ℕ, zero, suc, ◌+◌, ◌-◌, ◌<◌, ◌≡◌, refl, Bool, true, false, cond, not, ◌||◌, ◌↔◌, eqb}
use Rattle.std.proofs.Common.{arith, eqb-true, ne_eqb}
use Rattle.std.proofs.lemmas.Bool.{eqb-false}
use Rattle.laws.specs.Tests.{never}
use Rattle.frame.specs.Line.{Line, end_at, Found, nowhere, at, first_in}
use Rattle.frame.specs.Reading.{Good, Outcome, good, unfinished, faulty, fault_at, decides, frame_at, decided_by, decided}
use Rattle.frame.specs.FirstLaws.{first_at_law, at_first, first_none}
use Rattle.frame.specs.ReadStated.{IsFirst, Undecided, Earliest, GoodAt}

nothing : (f : ℕ) (e : Bool) → (not (eqb f 0) || e) ≡ false → (f ≡ 0) × (e ≡ false)
nothing f e h = go (eqb f 0) refl h
  where
    go : (b : Bool) → eqb f 0 ≡ b → (not b || e) ≡ false → (f ≡ 0) × (e ≡ false)
    go true q h = (eqb-true f 0 q, h)
    go false q h = never refl h

-- Where no interval decides, none is at fault and none is an end ..
pub undecided : (limit : ℕ) (l : Line) (o k : ℕ) → ((j : ℕ) → o < j → j < k → decides limit l o j ≡ false) → Undecided limit l o k
unfolding decides
undecided limit l o k h =
    record {
      no_fault = λ j a b. (nothing (fault_at limit l o j) (end_at l j) (h j a b)).0;
      no_end = λ j a b. (nothing (fault_at limit l o j) (end_at l j) (h j a b)).1;
    }

-- .. and the other way round.
pub still : (limit : ℕ) (l : Line) (o k j : ℕ) → Undecided limit l o k → o < j → j < k → decides limit l o j ≡ false
unfolding decides
still limit l o k j u a b = rw (u.no_fault j a b, u.no_end j a b)

found_earliest : (limit : ℕ) (l : Line) (o k : ℕ) → first_in (decides limit l o) (o + 1) l.count ≡ at k → Earliest limit l o k
found_earliest limit l o k h =
    let f : IsFirst (decides limit l o) (o + 1) (l.count - (o + 1)) k = first_at_law (decides limit l o) (o + 1) (l.count - (o + 1)) k h in
    record {
      later = omega (arith, f.from);
      inside = omega (arith, f.from, f.before);
      before = undecided limit l o k (λ j a b. f.none_earlier j (omega arith) b);
    }

earliest_found : (limit : ℕ) (l : Line) (o k : ℕ) → Earliest limit l o k → decides limit l o k ≡ true → first_in (decides limit l o) (o + 1) l.count ≡ at k
earliest_found limit l o k e d =
    at_first (decides limit l o) (o + 1) (l.count - (o + 1)) k
    (record {
      from = omega (arith, e.later);
      before = omega (arith, e.later, e.inside);
      holds = d;
      none_earlier = λ j a b. still limit l o k j e.before (omega arith) b;
    })

-- ## What the earliest interval gives

-- An interval at fault decides ..
pub fault_decides : (limit : ℕ) (l : Line) (o k : ℕ) → 0 < fault_at limit l o k → decides limit l o k ≡ true
unfolding decides
fault_decides limit l o k h = rw (ne_eqb (fault_at limit l o k) 0 (λ e. omega arith))

-- .. and one that is not decides where it is an end.
pub end_decides : (limit : ℕ) (l : Line) (o k : ℕ) → fault_at limit l o k ≡ 0 → decides limit l o k ≡ end_at l k
unfolding decides
end_decides limit l o k e = rw e

ends : (limit : ℕ) (l : Line) (o k : ℕ) → end_at l k ≡ true → decides limit l o k ≡ true
unfolding decides
ends limit l o k h = rw h (go (eqb (fault_at limit l o k) 0))
  where
    go : (b : Bool) → (not b || true) ≡ true
    go true = refl
    go false = refl

-- The earliest interval that is at fault gives its fault.
pub decides_faulty : (limit : ℕ) (l : Line) (o k : ℕ) → Earliest limit l o k → 0 < fault_at limit l o k → decided limit l o ≡ faulty (fault_at limit l o k) k
decides_faulty limit l o k e h =
    rw (earliest_found limit l o k e (fault_decides limit l o k h), ne_eqb (fault_at limit l o k) 0 (λ z. omega arith))

-- The earliest end that is not at fault closes the frame.
pub decides_good : (limit : ℕ) (l : Line) (o k : ℕ) → Earliest limit l o k → fault_at limit l o k ≡ 0 → end_at l k ≡ true
    → decided limit l o ≡ good (frame_at l o k)
decides_good limit l o k e f h = rw (earliest_found limit l o k e (ends limit l o k h), f)

-- Every frame that is opened comes to one of three: no interval decides it, or the earliest that does closes it or is at fault.
pub data Decision (limit : ℕ) (l : Line) (o : ℕ) : Outcome → Type 0 where
  is_unfinished : Undecided limit l o l.count → Decision limit l o (unfinished o)
  is_good : {k : ℕ} → Earliest limit l o k → fault_at limit l o k ≡ 0 → end_at l k ≡ true
      → Decision limit l o (good (frame_at l o k))
  is_faulty : {k : ℕ} → Earliest limit l o k → 0 < fault_at limit l o k → Decision limit l o (faulty (fault_at limit l o k) k)

fault_or_end : (limit : ℕ) (l : Line) (o k : ℕ) → decides limit l o k ≡ true → fault_at limit l o k ≡ 0 → end_at l k ≡ true
unfolding decides
fault_or_end limit l o k d f = rw f at d

positive : (n : ℕ) → ¬ (n ≡ 0) → 0 < n
positive zero h = absurd (h refl)
positive (suc n) h = omega arith

-- Each frame that is opened comes to one of them.
pub decision : (limit : ℕ) (l : Line) (o : ℕ) → Decision limit l o (decided limit l o)
decision limit l o = by (first_in (decides limit l o) (o + 1) l.count) refl
  where
    here : (k : ℕ) → first_in (decides limit l o) (o + 1) l.count ≡ at k → (b : Bool) → eqb (fault_at limit l o k) 0 ≡ b
        → Decision limit l o (cond b (good (frame_at l o k)) (faulty (fault_at limit l o k) k))
    here k f true q =
        let none : fault_at limit l o k ≡ 0 = eqb-true (fault_at limit l o k) 0 q in
        let holds : decides limit l o k ≡ true = (first_at_law (decides limit l o) (o + 1) (l.count - (o + 1)) k f).holds in
        is_good (found_earliest limit l o k f) none (fault_or_end limit l o k holds none)
    here k f false q = is_faulty (found_earliest limit l o k f) (positive (fault_at limit l o k) (eqb-false (fault_at limit l o k) 0 q))

    by : (f : Found) → first_in (decides limit l o) (o + 1) l.count ≡ f → Decision limit l o (decided_by f limit l o)
    by nowhere f =
        is_unfinished (undecided limit l o l.count (λ j a b. first_none (decides limit l o) (o + 1) (l.count - (o + 1)) f j (omega arith) (omega arith)))
    by (at k) f = here k f (eqb (fault_at limit l o k) 0) refl

-- What is known of an answer that is a fault: the interval is the earliest that decides, and the fault is its own.
pub record FaultyAt (limit : ℕ) (l : Line) (o n k : ℕ) : Type 0 where
  pub earliest : Earliest limit l o k
  pub at_fault : fault_at limit l o k ≡ n
  pub some_fault : 0 < n

-- All of that is known of a fault.
pub faulty_at : (limit : ℕ) (l : Line) (o n k : ℕ) → decided limit l o ≡ faulty n k → FaultyAt limit l o n k
faulty_at limit l o n k e = go (decided limit l o) (decision limit l o) e
  where
    go : (x : Outcome) → Decision limit l o x → x ≡ faulty n k → FaultyAt limit l o n k
    go x (is_unfinished u) e = let z : ◌≡◌ {A = ℕ} 0 1 = cc in absurd (omega arith)
    go x (is_good c f h) e = let z : ◌≡◌ {A = ℕ} 0 1 = cc in absurd (omega arith)
    go x (is_faulty {k = j} c h) e =
        let its : fault_at limit l o j ≡ n = cc in
        let same : j ≡ k = cc in
        record { earliest = rw (← same) c; at_fault = rw (← same) its; some_fault = rw (← its) h }

-- A frame comes to fault n at k exactly when k is the earliest interval that decides, and its fault is n.
pub faulty_exactly : (limit : ℕ) (l : Line) (o n k : ℕ) → 0 < n → (decided limit l o ≡ faulty n k) ↔ (Earliest limit l o k × (fault_at limit l o k ≡ n))
faulty_exactly limit l o n k h = (there, back)
  where
    there : decided limit l o ≡ faulty n k → Earliest limit l o k × (fault_at limit l o k ≡ n)
    there e = let f : FaultyAt limit l o n k = faulty_at limit l o n k e in (f.earliest, f.at_fault)

    back : Earliest limit l o k × (fault_at limit l o k ≡ n) → decided limit l o ≡ faulty n k
    back a = rw (← a.1) (decides_faulty limit l o k a.0 (rw a.1 h))

-- All of that is known of a good frame.
pub good_at : (limit : ℕ) (l : Line) (o : ℕ) (f : Good) → decided limit l o ≡ good f → GoodAt limit l o f
good_at limit l o f e = go (decided limit l o) (decision limit l o) e
  where
    go : (x : Outcome) → Decision limit l o x → x ≡ good f → GoodAt limit l o f
    go x (is_unfinished u) e = let z : ◌≡◌ {A = ℕ} 0 1 = cc in absurd (omega arith)
    go x (is_good {k = j} c n h) e =
        let same : frame_at l o j ≡ f = cc in
        rw (← same) (record { earliest = c; no_fault = n; end = h; frame_is = refl })
    go x (is_faulty c h) e = let z : ◌≡◌ {A = ℕ} 0 1 = cc in absurd (omega arith)
