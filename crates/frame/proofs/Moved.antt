-- Laws.
-- What stands before the opening never matters: two recordings that agree from their openings on are read alike, the places
-- moved.
use Rattle.std.specs.Prelude.{ℕ, zero, suc, ◌+◌, ◌-◌, ◌%◌, ◌≤◌, ◌≡◌, refl, Bool, cond, List, eqb, ltb, length, get_or, drop}
use Rattle.std.proofs.Common.{sym, ap, ◌∙◌, length-drop, get_or-drop}
use Rattle.std.proofs.Math.Bool.{true, false}
use native.Mathlib.Omega.{arith}
use Rattle.std.proofs.Math.Dec.{leb}
use borrow.Author.Tests.{le-ltb, lt-leb, le-leb, leb-true, leb-false}
use Rattle.frame.specs.Line.{active_at, symbol_at, Line, single, end_at, Found, nowhere, at, first, first_in, opening}
use Rattle.frame.specs.Standing.{counted, stands}
use Rattle.frame.proofs.StandingLaws.{stands_sof, stands_next}
use Rattle.frame.specs.Faults.{most_bytes}
use Rattle.frame.specs.Reading.{Outcome, good, quiet, unfinished, faulty, closed, fault_at, decides, decided_by, decided, outcome_by, read_on, reading}
use Rattle.frame.specs.FirstLaws.{first_at_law}
use Rattle.frame.specs.ReadStated.{IsFirst, shifted, moved_outcome}

-- a place that a search found, moved along
abbrev moved_found : (o o' : ℕ) → Found → Found
moved_found o o' nowhere = nowhere
moved_found o o' (at k) = at (shifted o o' k)

-- The first place is moved along where the tests agree.
first_moved : (t u : ℕ → Bool) (o o' : ℕ) → ((i : ℕ) → t (o + i) ≡ u (o' + i)) → (j n : ℕ)
    → first u (o' + j) n ≡ moved_found o o' (first t (o + j) n)
unfolding first
first_moved t u o o' g j zero = refl
first_moved t u o o' g j (suc n) = go (t (o + j)) (g j) (first_moved t u o o' g (j + 1) n)
  where
    here : o' + j ≡ shifted o o' (o + j)
    here = omega arith

    step : o + (j + 1) ≡ o + j + 1
    step = omega arith

    step' : o' + (j + 1) ≡ o' + j + 1
    step' = omega arith

    go : (b : Bool) → b ≡ u (o' + j) → first u (o' + (j + 1)) n ≡ moved_found o o' (first t (o + (j + 1)) n)
        → cond (u (o' + j)) (at (o' + j)) (first u (o' + j + 1) n) ≡ moved_found o o' (cond b (at (o + j)) (first t (o + j + 1) n))
    go true e ih = rw (← e) (ap at here)
    go false e ih = rw (← e, ← step, ← step') ih

-- Two lines that show the same from o and from o' on.
module _ (limit : ℕ) (l l' : Line) (o o' : ℕ) (same : (i : ℕ) → l.shows (o + i) ≡ l'.shows (o' + i)) (as_many : l.count - o ≡ l'.count - o') where
  end_moved : (i : ℕ) → end_at l (o + i) ≡ end_at l' (o' + i)
  end_moved i = rw (same i)

  stands_moved : (i : ℕ) → stands l o (o + (i + 1)) ≡ stands l' o' (o' + (i + 1))
  stands_moved zero = stands_sof l o ∙ sym (stands_sof l' o')
  stands_moved (suc i) =
      let a : o + (suc i + 1) ≡ o + (i + 1) + 1 = omega arith in
      let b : o' + (suc i + 1) ≡ o' + (i + 1) + 1 = omega arith in
      rw (a, b, stands_next l o (o + (i + 1)) (omega arith), stands_next l' o' (o' + (i + 1)) (omega arith), stands_moved i, same (i + 1))

  fault_moved : (i : ℕ) → fault_at limit l o (o + (i + 1)) ≡ fault_at limit l' o' (o' + (i + 1))
  fault_moved i = rw (stands_moved i, same (i + 1))

  decides_moved : (i : ℕ) → decides limit l o (o + 1 + i) ≡ decides limit l' o' (o' + 1 + i)
  unfolding decides
  decides_moved i =
      let a : o + 1 + i ≡ o + (i + 1) = omega arith in
      let b : o' + 1 + i ≡ o' + (i + 1) = omega arith in
      rw (a, b, fault_moved i, end_moved (i + 1))

  at_moved : (p' i : ℕ) → decided_by (at (o' + (i + 1))) limit l' o' ≡ moved_outcome p' o o' (decided_by (at (o + (i + 1))) limit l o)
  at_moved p' i = rw (← (stands_moved i), ← (same (i + 1))) (go (eqb (fault_at limit l o (o + (i + 1))) 0))
    where
      start : shifted o o' o ≡ o'
      start = omega arith

      place : shifted o o' (o + (i + 1)) ≡ o' + (i + 1)
      place = omega arith

      its : (k here : ℕ) → Outcome
      its k here = good (closed (counted (stands l o (o + (i + 1))) (l.shows (o + (i + 1)))) here k)

      go : (b : Bool) → cond b (its (o' + (i + 1)) o') (faulty (fault_at limit l o (o + (i + 1))) (o' + (i + 1)))
          ≡ moved_outcome p' o o' (cond b (its (o + (i + 1)) o) (faulty (fault_at limit l o (o + (i + 1))) (o + (i + 1))))
      go true = rw (start, place)
      go false = rw place

  by_moved : (p' : ℕ) (f : Found) → first_in (decides limit l o) (o + 1) l.count ≡ f
      → decided_by (moved_found (o + 1) (o' + 1) f) limit l' o' ≡ moved_outcome p' o o' (decided_by f limit l o)
  by_moved p' nowhere e = let z : o' ≡ shifted o o' o = omega arith in ap unfinished z
  by_moved p' (at k) e = places (first_at_law (decides limit l o) (o + 1) (l.count - (o + 1)) k e).from
    where
      places : o + 1 ≤ k → decided_by (at (shifted (o + 1) (o' + 1) k)) limit l' o' ≡ moved_outcome p' o o' (decided_by (at k) limit l o)
      places h =
          let a : k ≡ o + (k - (o + 1) + 1) = omega arith in
          let b : shifted (o + 1) (o' + 1) k ≡ o' + (k - (o + 1) + 1) = omega arith in
          ap (λ (x : ℕ). decided_by (at x) limit l' o') b ∙ at_moved p' (k - (o + 1)) ∙ ap (λ (x : ℕ). moved_outcome p' o o' (decided_by (at x) limit l o)) (sym a)

  -- Where two lines agree from there on, a frame that opens there is decided alike.
  pub decided_moved : (p' : ℕ) → decided limit l' o' ≡ moved_outcome p' o o' (decided limit l o)
  decided_moved p' =
      let z : o + 1 + 0 ≡ o + 1 = omega arith in
      let z' : o' + 1 + 0 ≡ o' + 1 = omega arith in
      let n : l'.count - (o' + 1) ≡ l.count - (o + 1) = omega (arith, as_many) in
      let e : first (decides limit l' o') (o' + 1) (l.count - (o + 1)) ≡ moved_found (o + 1) (o' + 1) (first (decides limit l o) (o + 1) (l.count - (o + 1))) = rw (z, z') at (first_moved (decides limit l o) (decides limit l' o') (o + 1) (o' + 1) decides_moved 0 (l.count - (o + 1))) in
      rw (n, e) (by_moved p' (first_in (decides limit l o) (o + 1) l.count) refl)

  -- The same for the whole call: if these places are the openings of reading from p and from p', the answers are the same, the
  -- places moved.
  pub line_moved : (p p' lent : ℕ) → opening l p ≡ at o → opening l' p' ≡ at o' → read_on limit l' p' lent ≡ moved_outcome p' o o' (read_on limit l p lent)
  unfolding read_on opening
  line_moved p p' lent e e' =
      let f : IsFirst (end_at l) p (l.count - p) o = first_at_law (end_at l) p (l.count - p) o e in
      let f' : IsFirst (end_at l') p' (l'.count - p') o' = first_at_law (end_at l') p' (l'.count - p') o' e' in
      rw (le-ltb l.count p (omega (arith, f.from, f.before)), le-ltb l'.count p' (omega (arith, f'.from, f'.before)), e, e')
      (go (ltb lent limit) (leb l.count (o + 1)) (follows (leb l.count (o + 1)) refl))
    where
      follows : (b : Bool) → leb l.count (o + 1) ≡ b → leb l'.count (o' + 1) ≡ b
      follows true q = le-leb l'.count (o' + 1) (omega (arith, leb-true l.count (o + 1) q, as_many))
      follows false q = lt-leb l'.count (o' + 1) (omega (arith, leb-false l.count (o + 1) q, as_many))

      go : (t b : Bool) → leb l'.count (o' + 1) ≡ b
          → outcome_by (cond t 32 0) (cond (leb l'.count (o' + 1)) (quiet p') (decided limit l' o'))
          ≡ moved_outcome p' o o' (outcome_by (cond t 32 0) (cond b (quiet p) (decided limit l o)))
      go true b q = refl
      go false true q = rw q
      go false false q = rw q (decided_moved p')

-- Two recordings whose widths are the same from places of the same level on.
module _ (ws ws' : List ℕ) (o o' : ℕ) (level : o % 2 ≡ o' % 2) (same : drop o ws ≡ drop o' ws') where
  width_moved : (i : ℕ) → get_or ws (o + i) 0 ≡ get_or ws' (o' + i) 0
  width_moved i = sym (get_or-drop o ws i 0) ∙ ap (λ (x : List ℕ). get_or x i 0) same ∙ get_or-drop o' ws' i 0

  level_moved : (i : ℕ) → active_at (o + i) ≡ active_at (o' + i)
  level_moved i = let e : (o + i) % 2 ≡ (o' + i) % 2 = omega arith in ap (λ (x : ℕ). eqb x 1) e

  shows_moved : (i : ℕ) → (single ws).shows (o + i) ≡ (single ws').shows (o' + i)
  unfolding symbol_at
  shows_moved i = rw (level_moved i, width_moved i)

  -- Reading them comes to the same, the places moved.
  pub reading_moved : (p p' lent : ℕ) → opening (single ws) p ≡ at o → opening (single ws') p' ≡ at o'
      → reading ws' p' lent ≡ moved_outcome p' o o' (reading ws p lent)
  reading_moved p p' lent e e' =
      line_moved most_bytes (single ws) (single ws') o o' shows_moved (sym (length-drop o ws) ∙ ap length same ∙ length-drop o' ws') p p' lent e e'
