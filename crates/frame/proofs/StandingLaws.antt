-- Laws.
-- Where the next interval stands, from where this one does and what it shows. Later proofs use this law alone.
use Rattle.std.specs.Prelude.{ℕ, ◌+◌, ◌-◌, ◌≤◌, ◌<◌, ◌≡◌, refl, List, [], ◌∷◌, ◌++◌, Bool, true, false, cond, ◌⊎◌, eqb}
use Rattle.std.proofs.Common.{sym, ap, append-nil, inl, inr, arith, eq-or-lt_of_le, eq-eqb, ne_eqb, eqb-true}
use Rattle.std.proofs.lemmas.Bool.{eqb-false}
use Rattle.frame.specs.Signs.{Sign, shut, bits_shown, is_eod}
use Rattle.frame.specs.Line.{Line, Found, nowhere, at, first_in, bits_in}
use Rattle.frame.specs.Standing.{Standing, at_sof, in_main, at_normalization, in_response, response_by, with_bits, counted, moved, stands_by, stands}
use Rattle.frame.specs.FirstLaws.{first_at_law, or_at, first_next, first_empty}
use Rattle.frame.specs.ReadStated.{IsFirst}
use Rattle.frame.proofs.BitLaws.{bits_next, bits_empty}

-- No bits more change nothing.
pub with_none : (st : Standing) → with_bits st [] ≡ st
with_none at_sof = refl
with_none (in_main m) = ap in_main (append-nil m)
with_none (at_normalization m) = refl
with_none (in_response k m r) = ap (in_response k m) (append-nil r)

-- An EOD or end of its own completes no bit.
pub counted_shut : (st : Standing) (eod : Bool) → counted st (shut eod) ≡ st
counted_shut st eod = with_none st

apart : (a b : ℕ) → eqb a b ≡ false → b ≤ a → b < a
apart a b c h = go (eq-or-lt_of_le h)
  where
    go : (b ≡ a) ⊎ (b < a) → b < a
    go (inl e) = absurd (eqb-false a b c (sym e))
    go (inr l) = l

-- the EOD's place, where one is found, lies in the range that was searched
abbrev Between : Found → ℕ → ℕ → Type 0
Between nowhere i k = Unit {0}
Between (at e) i k = (i ≤ e) × (e < k)

between : (test : ℕ → Bool) (i k : ℕ) (f : Found) → first_in test i k ≡ f → Between f i k
between test i k nowhere h = tt
between test i k (at e) h =
    let f : IsFirst test i (k - i) e = first_at_law test i (k - i) e h in
    (f.from, omega (arith, f.before, f.from))

response_more : (m bits : List Bool) (s : Sign) → response_by m (bits ++ bits_shown s) ≡ moved (response_by m bits) s
response_more m [] s = refl
response_more m (b ∷ bits) s = refl

by_next : (l : Line) (o k : ℕ) → o + 2 ≤ k → (f : Found) → Between f (o + 2) k
    → stands_by (or_at f (is_eod (l.shows k)) k) l o (k + 1) ≡ moved (stands_by f l o k) (l.shows k)
by_next l o k h nowhere g = go (is_eod (l.shows k))
  where
    go : (b : Bool) → stands_by (cond b (at k) nowhere) l o (k + 1)
        ≡ cond b (at_normalization (bits_in l (o + 2) k ++ bits_shown (l.shows k))) (in_main (bits_in l (o + 2) k ++ bits_shown (l.shows k)))
    go true = rw (bits_empty l (k + 1) (k + 1) (omega arith), bits_next l (o + 2) k h)
    go false = ap in_main (bits_next l (o + 2) k h)
by_next l o k h (at e) g = rw (bits_next l (e + 1) k (omega arith)) (response_more (bits_in l (o + 2) (e + 1)) (bits_in l (e + 1) k) (l.shows k))

-- The place after the opening is the SOF's.
pub stands_sof : (l : Line) (o : ℕ) → stands l o (o + 1) ≡ at_sof
unfolding stands
stands_sof l o = rw (eq-eqb (o + 1) (o + 1) refl)

-- After the SOF's place the frame is in its main part, or after the first EOD in its response.
pub stands_past : (l : Line) (o k : ℕ) → o + 1 < k → stands l o k ≡ stands_by (first_in (λ j. is_eod (l.shows j)) (o + 2) k) l o k
unfolding stands
stands_past l o k h = rw (ne_eqb k (o + 1) (λ x. omega arith))

-- One place further, whatever it shows.
pub stands_next : (l : Line) (o k : ℕ) → o < k → stands l o (k + 1) ≡ moved (stands l o k) (l.shows k)
unfolding stands
stands_next l o k h = go (eqb k (o + 1)) refl
  where
    past : eqb (k + 1) (o + 1) ≡ false
    past = ne_eqb (k + 1) (o + 1) (λ x. omega arith)

    go : (b : Bool) → eqb k (o + 1) ≡ b
        → stands l o (k + 1) ≡ moved (cond b at_sof (stands_by (first_in (λ j. is_eod (l.shows j)) (o + 2) k) l o k)) (l.shows k)
    go true c =
        let m : k ≡ o + 1 = eqb-true k (o + 1) c in
        rw (past, first_empty (λ j. is_eod (l.shows j)) (o + 2) (k + 1) (omega arith), bits_empty l (o + 2) (k + 1) (omega arith))
    go false c =
        let m : o + 2 ≤ k = omega (arith, apart k (o + 1) c (omega arith)) in
        rw (past, first_next (λ j. is_eod (l.shows j)) (o + 2) k m)
        (by_next l o k m (first_in (λ j. is_eod (l.shows j)) (o + 2) k) (between (λ j. is_eod (l.shows j)) (o + 2) k (first_in (λ j. is_eod (l.shows j)) (o + 2) k) refl))
