-- Laws.
-- Signs that decide nothing, and signs that close a frame: how the standing moves along them, and what the line that shows
-- them is decided to be.
use Rattle.std.specs.Prelude.{ℕ, suc, ◌+◌, ◌-◌, ◌≤◌, ◌<◌, ◌≡◌, true, false, List, [], ◌∷◌, ◌++◌, ◌⊎◌, length}
use Rattle.std.proofs.Common.{◌∙◌, inl, inr, arith, eq-or-lt_of_le}
use Rattle.frame.specs.Signs.{Sign, is_end}
use Rattle.frame.specs.Line.{Line, at, first_in}
use Rattle.frame.specs.Standing.{Standing, at_sof, counted, moved, stands}
use Rattle.frame.specs.Faults.{fault}
use Rattle.frame.specs.Reading.{good, closed, fault_at, decides, decided}
use Rattle.frame.specs.FirstLaws.{at_first}
use Rattle.frame.proofs.StandingLaws.{stands_sof, stands_next}
use Rattle.frame.specs.WaveLaws.{Shows}

-- From the standing st the signs lead to the standing st', and none of them is at fault or an end.
pub data Passes (limit : ℕ) : Standing → List Sign → Standing → Type 0 where
  stay : {st : Standing} → Passes limit st [] st
  pass : {st st' : Standing} {s : Sign} {ss : List Sign} → fault limit st s ≡ 0 → is_end s ≡ false → Passes limit (moved st s) ss st'
      → Passes limit st (s ∷ ss) st'

-- The signs end with one that closes the frame, whose parts st' has.
pub data Closes (limit : ℕ) : Standing → List Sign → Standing → Type 0 where
  close : {st : Standing} {s : Sign} → fault limit st s ≡ 0 → is_end s ≡ true → Closes limit st (s ∷ []) (counted st s)
  on : {st st' : Standing} {s : Sign} {ss : List Sign} → fault limit st s ≡ 0 → is_end s ≡ false → Closes limit (moved st s) ss st'
      → Closes limit st (s ∷ ss) st'

-- Signs that decide nothing, and then signs that close the frame.
pub passes_closes : {limit : ℕ} {a b c : Standing} {xs ys : List Sign} → Passes limit a xs b → Closes limit b ys c → Closes limit a (xs ++ ys) c
passes_closes stay q = q
passes_closes (pass f e p) q = on f e (passes_closes p q)

-- ## On a line

-- what is known where places from i on show n signs that close a frame which opens at o
pub record ClosedBy (limit : ℕ) (l : Line) (o i n : ℕ) (st : Standing) : Type 0 where
  pub nothing_before : (j : ℕ) → i ≤ j → j + 1 < i + n → decides limit l o j ≡ false
  pub at_last : (decides limit l o (i + n - 1) ≡ true) × (fault_at limit l o (i + n - 1) ≡ 0)
  pub parts : counted (stands l o (i + n - 1)) (l.shows (i + n - 1)) ≡ st
  pub some : 1 ≤ n

no_decision : (limit : ℕ) (l : Line) (o k : ℕ) → fault_at limit l o k ≡ 0 → is_end (l.shows k) ≡ false → decides limit l o k ≡ false
unfolding decides
no_decision limit l o k e g = rw (e, g)

an_end : (limit : ℕ) (l : Line) (o k : ℕ) → fault_at limit l o k ≡ 0 → is_end (l.shows k) ≡ true → decides limit l o k ≡ true
unfolding decides
an_end limit l o k e g = rw (e, g)

-- Places that show such signs decide nothing before the last.
pub closes_line : (limit : ℕ) (l : Line) (o i : ℕ) {st st' : Standing} {ss : List Sign} → Closes limit st ss st' → o < i → stands l o i ≡ st
    → Shows l i ss → ClosedBy limit l o i (length ss) st'
closes_line limit l o i (close {st} {s} f n) h e c =
    let here : i + 1 - 1 ≡ i = omega arith in
    let z : fault_at limit l o i ≡ 0 = rw (e, c.0) f in
    record {
      nothing_before = λ j a b. absurd (omega arith);
      at_last = rw here (an_end limit l o i z (rw c.0 n), z);
      parts = rw (here, e, c.0);
      some = omega arith;
    }
closes_line limit l o i (on {st} {st'} {s} {ss} f n p) h e c =
    further (closes_line limit l o (i + 1) p (omega arith) (stands_next l o i h ∙ rw (e, c.0)) c.1)
  where
    now : decides limit l o i ≡ false
    now = no_decision limit l o i (rw (e, c.0) f) (rw c.0 n)

    further : ClosedBy limit l o (i + 1) (length ss) st' → ClosedBy limit l o i (suc (length ss)) st'
    further r =
        let place : i + suc (length ss) - 1 ≡ i + 1 + length ss - 1 = omega arith in
        record { nothing_before = way; at_last = rw place r.at_last; parts = rw place r.parts; some = omega arith }
      where
        way : (j : ℕ) → i ≤ j → j + 1 < i + suc (length ss) → decides limit l o j ≡ false
        way j a b = by (eq-or-lt_of_le a)
          where
            by : (i ≡ j) ⊎ (i < j) → decides limit l o j ≡ false
            by (inl q) = rw (← q) now
            by (inr q) = r.nothing_before j (omega arith) (omega arith)

-- READ-BACK, ONCE. Signs after an opening that close a frame are decided to be it, on any line.
pub decides_it : (limit : ℕ) (l : Line) (o : ℕ) {st : Standing} {ss : List Sign} → Closes limit at_sof ss st → Shows l (o + 1) ss → o + length ss < l.count
    → decided limit l o ≡ good (closed st o (o + length ss))
decides_it limit l o {st} {ss} p c inside =
    let r : ClosedBy limit l o (o + 1) (length ss) st = closes_line limit l o (o + 1) p (omega arith) (stands_sof l o) c in
    let k : o + 1 + length ss - 1 ≡ o + length ss = omega arith in
    let first : first_in (decides limit l o) (o + 1) l.count ≡ at (o + length ss) = at_first (decides limit l o) (o + 1) (l.count - (o + 1)) (o + length ss) (record {
      from = omega (arith, r.some);
      before = omega (arith, r.some);
      holds = rw (← k) r.at_last.0;
      none_earlier = λ j a b. r.nothing_before j a (omega arith);
    }) in
    rw (first, ← k, r.at_last.1, r.parts)
