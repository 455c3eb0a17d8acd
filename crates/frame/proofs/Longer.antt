-- Laws.
-- A recording that goes on: what comes after the intervals that were read never changes a frame or a fault that they hold.
use Rattle.std.specs.Prelude.{ℕ, zero, suc, ◌+◌, ◌-◌, ◌≤◌, ◌<◌, ◌≡◌, refl, Bool, true, List, get_or}
use Rattle.std.proofs.Common.{sym, ap, subst, ◌∙◌, arith}
use Rattle.laws.specs.Tests.{never}
use Rattle.frame.specs.Line.{symbol_at, Line, single, end_at, Found, nowhere, at, first, first_in}
use Rattle.frame.specs.Standing.{stands}
use Rattle.frame.proofs.StandingLaws.{stands_sof, stands_next}
use Rattle.frame.specs.Reading.{fault_at, decides, decided_by, decided, read_on}
use Rattle.frame.specs.FirstLaws.{first_at_law, at_first}
use Rattle.frame.specs.ReadStated.{IsFirst, Opens, goes_on}
use Rattle.frame.proofs.Outcomes.{opened_reading, OpenedBy, opened_by}

-- Where two tests agree, the first place is the same.
pub first_same : (t u : ℕ → Bool) (i n : ℕ) → ((j : ℕ) → i ≤ j → j < i + n → t j ≡ u j) → first t i n ≡ first u i n
unfolding first
first_same t u i zero g = refl
first_same t u i (suc n) g =
    rw (g i (omega arith) (omega arith), first_same t u (i + 1) n (λ j a b. g j (omega arith) (omega arith)))

-- The same widths show the same.
pub shows_same : (ws ws' : List ℕ) (j : ℕ) → get_or ws j 0 ≡ get_or ws' j 0 → (single ws).shows j ≡ (single ws').shows j
unfolding symbol_at
shows_same ws ws' j e = rw e

-- Two lines that show the same at the first n places.
module _ (l l' : Line) (n : ℕ) (same : (j : ℕ) → j < n → l.shows j ≡ l'.shows j) where
  -- the ends there are the same
  pub end_same : (j : ℕ) → j < n → end_at l j ≡ end_at l' j
  end_same j h = rw (same j h)

  stands_on : (o i : ℕ) → o + (i + 1) ≤ n → stands l o (o + (i + 1)) ≡ stands l' o (o + (i + 1))
  stands_on o zero h = stands_sof l o ∙ sym (stands_sof l' o)
  stands_on o (suc i) h =
      let a : o + (suc i + 1) ≡ o + (i + 1) + 1 = omega arith in
      rw (a, stands_next l o (o + (i + 1)) (omega arith), stands_next l' o (o + (i + 1)) (omega arith), stands_on o i (omega arith), same (o + (i + 1)) (omega arith))

  -- What stands before an interval is told by the intervals before it.
  pub stands_same : (o k : ℕ) → o < k → k ≤ n → stands l o k ≡ stands l' o k
  stands_same o k a b =
      let e : k ≡ o + (k - (o + 1) + 1) = omega arith in
      subst (λ (x : ℕ). stands l o x ≡ stands l' o x) (sym e) (stands_on o (k - (o + 1)) (omega arith))

  -- So the fault of an interval is the same ..
  pub fault_same : (limit o k : ℕ) → o < k → k < n → fault_at limit l o k ≡ fault_at limit l' o k
  fault_same limit o k a b = rw (stands_same o k a (omega arith), same k b)

  -- .. and whether it decides the frame.
  pub decides_same : (limit o k : ℕ) → o < k → k < n → decides limit l o k ≡ decides limit l' o k
  unfolding decides
  decides_same limit o k a b = rw (fault_same limit o k a b, end_same k b)

  by_same : (limit o k : ℕ) → o < k → k < n → decided_by (at k) limit l' o ≡ decided_by (at k) limit l o
  by_same limit o k a b = rw (stands_same o k a (omega arith), same k b)

-- One that begins with the other: it has all its intervals, and maybe more after them.
module _ (limit : ℕ) (l l' : Line) (longer : l.count ≤ l'.count) (same : (j : ℕ) → j < l.count → l.shows j ≡ l'.shows j) where
  decided_stays : (o : ℕ) → goes_on (decided limit l o) ≡ true → decided limit l' o ≡ decided limit l o
  decided_stays o g = go (first_in (decides limit l o) (o + 1) l.count) refl g
    where
      go : (f : Found) → first_in (decides limit l o) (o + 1) l.count ≡ f → goes_on (decided_by f limit l o) ≡ true → decided limit l' o ≡ decided_by f limit l o
      go nowhere e h = never h refl
      go (at k) e h =
          let f : IsFirst (decides limit l o) (o + 1) (l.count - (o + 1)) k = first_at_law (decides limit l o) (o + 1) (l.count - (o + 1)) k e in
          let in' : k < l.count = omega (arith, f.from, f.before) in
          let first' : first_in (decides limit l' o) (o + 1) l'.count ≡ at k = at_first (decides limit l' o) (o + 1) (l'.count - (o + 1)) k (record {
            from = f.from;
            before = omega (arith, f.from, in');
            holds = sym (decides_same l l' l.count same limit o k (omega (arith, f.from)) in') ∙ f.holds;
            none_earlier = λ j a b. sym (decides_same l l' l.count same limit o j (omega arith) (omega arith)) ∙ f.none_earlier j a b;
          }) in
          ap (λ (x : Found). decided_by x limit l' o) first' ∙ by_same l l' l.count same limit o k (omega (arith, f.from)) in'

  -- A frame or a fault stays what it is, and where it is, whatever is recorded after it.
  pub reading_stays : (p lent : ℕ) → goes_on (read_on limit l p lent) ≡ true → read_on limit l' p lent ≡ read_on limit l p lent
  reading_stays p lent g =
      let r : OpenedBy limit l p lent (read_on limit l p lent) = opened_by limit l p lent (read_on limit l p lent) g refl in
      let op : Opens l' p r.opening = record {
        from = r.opens.from;
        end = sym (end_same l l' l.count same r.opening (omega (arith, r.opens.followed))) ∙ r.opens.end;
        none_before = λ j a b. sym (end_same l l' l.count same j (omega (arith, r.opens.followed))) ∙ r.opens.none_before j a b;
        followed = omega (arith, r.opens.followed);
      } in
      opened_reading limit l' p lent r.opening r.enough op ∙ decided_stays r.opening (rw r.is_decided g) ∙ r.is_decided
