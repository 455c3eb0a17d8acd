-- Laws.
-- Quiet and unfinished, "asked for separately": what a reader answers at the moment of asking is what reading the
-- intervals heard so far ends with.
use Rattle.std.specs.Prelude.{ℕ, ◌+◌, ◌≤◌, ◌<◌, ◌≡◌, Bool, true, false, List, [], ◌∷◌, ◌⊎◌, leb}
use Rattle.std.proofs.Math.Path.{refl}
use Rattle.std.proofs.Common.{sym, ap, ◌∙◌, inl, inr, arith, eq-or-lt_of_le, le-leb}
use Rattle.std.proofs.lemmas.Bool.{lt-leb}
use Rattle.frame.specs.Signs.{is_eod}
use Rattle.frame.specs.Line.{Line, Found, nowhere, at, first_in, opening, bits_in}
use Rattle.frame.specs.Standing.{Standing, at_sof, response_by, stands, stands_by}
use Rattle.frame.proofs.StandingLaws.{stands_sof, stands_past}
use Rattle.frame.specs.Faults.{most_bytes}
use Rattle.frame.specs.Reading.{Outcome, quiet, unfinished, read_by, read_on}
use Rattle.frame.specs.ReadPromise.{tells}
use Rattle.frame.specs.ReadStated.{goes_on}
use Rattle.frame.proofs.Outcomes.{reads_by}
use Rattle.frame_machine.specs.declared.Machine.{Machine}
use Rattle.frame_machine.specs.Holding.{phase_of, holding}
use Rattle.live_held.specs.declared.Inside.{Inside}
use Rattle.live_held.specs.declared.Live.{Live}
use Rattle.live.specs.Feeding.{asked_of}
use Rattle.live_held.specs.Held.{phase_number, inside_of, outside}
use Rattle.live.specs.Promise.{asked_told}
use Rattle.live.specs.Hearing.{Rest, seeks, hears, Hears}
use Rattle.live.specs.Taking.{reached_in}

-- After the SOF's place the machine is in a later phase.
past_sof : (l : Line) (o k : ℕ) → o + 1 < k → leb (phase_number (phase_of (stands l o k))) 1 ≡ false
past_sof l o k h = rw (stands_past l o k h) (by (first_in (λ j. is_eod (l.shows j)) (o + 2) k))
  where
    later : (main bits : List Bool) → leb (phase_number (phase_of (response_by main bits))) 1 ≡ false
    later main [] = refl
    later main (true ∷ bits) = refl
    later main (false ∷ bits) = refl

    by : (f : Found) → leb (phase_number (phase_of (stands_by f l o k))) 1 ≡ false
    by nowhere = refl
    by (at e) = later (bits_in l (o + 2) (e + 1)) (bits_in l (e + 1) k)

no_phase : {i : Inside} (kept : List ℕ) → i ≡ outside kept → leb i.phase 1 ≡ true
unfolding outside
no_phase kept e = rw e

its_phase : {i : Inside} (m : Machine) (kept : List ℕ) (st : Standing) → i ≡ inside_of m kept → m ≡ holding st → i.phase ≡ phase_number (phase_of st)
unfolding inside_of holding
its_phase m kept st e f = rw (e, f)

module _ (l : Line) (xs : List Outcome) (v : Live) (h : Hears l xs v) where
  -- what the rest of the recording is read as, and what is answered
  both : (x : Outcome) → goes_on x ≡ false → read_on most_bytes l v.places.from most_bytes ≡ x → asked_told (asked_of v) ≡ tells x
      → (asked_told (asked_of v) ≡ tells (read_on most_bytes l v.places.from most_bytes)) × (goes_on (read_on most_bytes l v.places.from most_bytes) ≡ false)
  both x g r a = (rw r a, rw r g)

  read_by_law : read_on most_bytes l v.places.from most_bytes ≡ read_by (opening l v.places.from) most_bytes l v.places.from
  read_by_law = reads_by most_bytes l v.places.from most_bytes (reached_in l h.reached) (omega arith)

  asks_by : Rest l v.places v.inside
      → (asked_told (asked_of v) ≡ tells (read_on most_bytes l v.places.from most_bytes)) × (goes_on (read_on most_bytes l v.places.from most_bytes) ≡ false)
  unfolding asked_of
  asks_by (seeks kept is has_space none) =
      both (quiet v.places.from) refl (read_by_law ∙ rw none) (rw (no_phase kept is))
  asks_by (hears m kept is opens none stood) =
      let from-sof : v.places.opening + 1 ≤ l.count = omega (arith, stood.follows.opened) in
      go (eq-or-lt_of_le from-sof)
    where
      phase_is : v.inside.phase ≡ phase_number (phase_of (stands l v.places.opening l.count))
      phase_is = its_phase m kept (stands l v.places.opening l.count) is stood.follows.holds

      go : (v.places.opening + 1 ≡ l.count) ⊎ (v.places.opening + 1 < l.count)
          → (asked_told (asked_of v) ≡ tells (read_on most_bytes l v.places.from most_bytes)) × (goes_on (read_on most_bytes l v.places.from most_bytes) ≡ false)
      go (inl e) =
          let at-sof : stands l v.places.opening l.count ≡ at_sof = ap (stands l v.places.opening) (sym e) ∙ stands_sof l v.places.opening in
          let p : leb v.inside.phase 1 ≡ true = ap (λ (x : ℕ). leb x 1) (phase_is ∙ ap (λ (st : Standing). phase_number (phase_of st)) at-sof) in
          both (quiet v.places.from) refl
          (read_by_law ∙ rw (opens, le-leb l.count (v.places.opening + 1) (omega (arith, e))))
          (rw p)
      go (inr far) =
          let p : leb v.inside.phase 1 ≡ false = ap (λ (x : ℕ). leb x 1) phase_is ∙ past_sof l v.places.opening l.count far in
          both (unfinished v.places.opening) refl
          (read_by_law ∙ rw (opens, lt-leb l.count (v.places.opening + 1) far, none))
          (rw p)

  -- Asking answers quiet or unfinished as reading does, from the position that the frames and faults told lead to.
  pub asks : (asked_told (asked_of v) ≡ tells (read_on most_bytes l v.places.from most_bytes)) × (goes_on (read_on most_bytes l v.places.from most_bytes) ≡ false)
  asks = asks_by h.rest
