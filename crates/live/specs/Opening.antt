-- Laws.
-- How places are counted, and how a frame is begun.
use Rattle.std.specs.Prelude.{ℕ, ◌+◌, ◌≤◌, ◌<◌, ◌≡◌, Bool, List, ◌⊎◌, eqb, length}
use Rattle.std.proofs.Math.Path.{refl, sym, subst}
use Rattle.std.proofs.Common.{ap, ◌∙◌, inl, inr, arith, eq-or-lt_of_le, eq-eqb, ne_eqb}
use Rattle.std.proofs.Math.Bool.{true, false}
use Rattle.frame.specs.Line.{Line, end_at, nowhere, at, first_in, opening}
use Rattle.frame.specs.Faults.{most_bytes}
use Rattle.frame.specs.Reading.{Outcome, decides}
use Rattle.frame.specs.FirstLaws.{first_next, first_empty, opening_is}
use Rattle.frame_machine.specs.Steps.{fresh}
use Rattle.frame_machine.proofs.Keeping.{keeping_first}
use Rattle.frame_machine.specs.Stated.{Keeping}
use Rattle.live_held.specs.declared.Places.{Places}
use Rattle.live_held.specs.declared.Live.{Live}
use Rattle.live_held.specs.Reader.{begins_anew}
use Rattle.live_held.specs.Held.{last_place, after}
use Rattle.live.specs.Hearing.{ToldSoFar, Counts, place_left, all_heard_law, Rest, seeks, hears, Hears}

-- ## The places

-- One interval more is counted, up to the last place.
pub counts_on : (n : ℕ) (p : Places) (from opening : ℕ) → p.next ≡ n → n ≤ last_place → Counts (n + 1) (after p from opening)
unfolding after
counts_on n p from opening e h = go (eq-or-lt_of_le h)
  where
    go : (n ≡ last_place) ⊎ (n < last_place) → Counts (n + 1) (after p from opening)
    go (inl l) = all_heard_law (rw (eq-eqb p.next last_place (e ∙ l))) (ap (λ (x : ℕ). x + 1) l)
    go (inr l) =
        let ne : eqb p.next last_place ≡ false = ne_eqb p.next last_place (λ x. omega (arith, e)) in
        place_left (rw ne) (rw (ne, e)) (omega arith)

-- ## A frame begins

-- After an interval at k that no frame goes on with: where it is an end it opens a frame, and nothing of it is heard yet;
-- otherwise there is no opening yet.
module _ (l : Line) (k : ℕ) (long : l.count ≡ k + 1) (v : Live) (at-k : v.places.next ≡ k) (has_space : most_bytes ≤ length v.inside.kept) where
  pub begins : (from : ℕ) → from ≤ k → first_in (end_at l) from k ≡ nowhere → (b : Bool) → end_at l k ≡ b
      → Rest l (begins_anew v from b).places (begins_anew v from b).inside
  unfolding begins_anew after
  begins from h none true e =
      let opens : opening l from ≡ at v.places.next = opening_is l from ∙ rw (long, first_next (end_at l) from k h, none, e, at-k) in
      hears fresh v.inside.kept refl opens
      (first_empty (decides most_bytes l v.places.next) (v.places.next + 1) l.count (omega (arith, long, at-k)))
      (subst (λ (x : ℕ). Keeping most_bytes l v.places.next x fresh v.inside.kept) (ap (λ (x : ℕ). x + 1) at-k ∙ sym long) (keeping_first most_bytes l v.places.next fresh v.inside.kept refl has_space))
  begins from h none false e =
      seeks v.inside.kept refl has_space (opening_is l from ∙ rw (long, first_next (end_at l) from k h, none, e))

  -- A reader that then goes on from there has heard all of it.
  pub begins_hears : (xs : List Outcome) (from : ℕ) → k ≤ last_place → from ≤ k → first_in (end_at l) from k ≡ nowhere → (b : Bool) → end_at l k ≡ b
      → ToldSoFar l from xs → Hears l xs (begins_anew v from b)
  unfolding begins_anew after
  begins_hears xs from fits h none true e r =
      record {
        reached = r;
        counts = subst (λ (n : ℕ). Counts n (begins_anew v from true).places) (sym long) (counts_on k v.places from v.places.next at-k fits);
        rest = begins from h none true e;
      }
  begins_hears xs from fits h none false e r =
      record {
        reached = r;
        counts = subst (λ (n : ℕ). Counts n (begins_anew v from false).places) (sym long) (counts_on k v.places from v.places.opening at-k fits);
        rest = begins from h none false e;
      }
