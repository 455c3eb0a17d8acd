-- Laws.
-- A reader that was started, and the next interval, where it is taken.
use Rattle.std.specs.Prelude.{ℕ, ◌+◌, ◌≤◌, ◌<◌, ◌≡◌, refl, true, false, List, [], ◌∷◌, eqb, length, get_or, replicate}
use Rattle.std.proofs.Common.{sym, ap₂, ◌∙◌, arith, length-append}
use Rattle.std.proofs.Math.ListN.{get_or-append}
use Rattle.std.proofs.Math.Seq.{get_or-append_seam}
use borrow.Author.Tests.{le-ltb, eq-eqb}
use Rattle.symbol.specs.Classes.{class_of, end_of}
use Rattle.frame.specs.Line.{active_at, sign_of, single, end_at, nowhere, opening}
use Rattle.frame.specs.Faults.{most_bytes}
use Rattle.frame.specs.Reading.{Outcome}
use Rattle.frame.proofs.ShownLaws.{end_width_law, shows_class}
use Rattle.frame.specs.FirstLaws.{first_empty, opening_is}
use Rattle.frame.specs.ReadingOn.{none_yet}
use Rattle.frame.proofs.Longer.{shows_same}
use Rattle.frame_machine.specs.declared.Phase.{Phase}
use Rattle.frame_machine.specs.declared.Phase.TheVariants.{Sof, Main, Normalization, Plain, Checked}
use Rattle.frame_machine.specs.declared.Machine.{Machine}
use Rattle.frame_tests.specs.Shown.{sign_for}
use Rattle.frame_machine.specs.Meaning.{meaning_of, sign_means}
use Rattle.live_held.specs.declared.Inside.{Inside}
use Rattle.live_held.specs.declared.Live.{Live}
use Rattle.live_taken.specs.Taken.{ends_at, waiting}
use Rattle.live.specs.Feeding.{started, taken_of, fed_of, laid_of, lent_of}
use Rattle.live_held.specs.Held.{last_place, no_frame, phase_number, inside_of, outside}
use Rattle.live.specs.Hearing.{Counts, place_left, all_heard_law, Rest, seeks, hears, Hears, Takes, decides_nothing}
use Rattle.live.specs.Opening.{begins_hears}
use Rattle.live.specs.Taking.{reached_in, reached_on, none_still, takes_next}
use Rattle.live.specs.Shown.{on}

-- A reader that was started has heard nothing and told nothing.
pub starts : Hears (single []) [] started
unfolding started
starts =
    record { reached = none_yet; counts = place_left refl refl (omega arith); rest = seeks (replicate most_bytes 0) refl (omega arith) (opening_is (single []) 0 ∙ first_empty (end_at (single [])) 0 0 (omega arith)) }

-- ## The next interval

some_phase : (p : Phase) → eqb (phase_number p) no_frame ≡ false
some_phase Sof = refl
some_phase Main = refl
some_phase Normalization = refl
some_phase Plain = refl
some_phase Checked = refl

out_of_frame : {i : Inside} (kept : List ℕ) → i ≡ outside kept → eqb i.phase no_frame ≡ true
unfolding outside
out_of_frame kept e = rw e

kept_outside : {i : Inside} (kept : List ℕ) → i ≡ outside kept → i.kept ≡ kept
unfolding outside
kept_outside kept e = rw e

in_frame : {i : Inside} (m : Machine) (kept : List ℕ) → i ≡ inside_of m kept → eqb i.phase no_frame ≡ false
unfolding inside_of
in_frame m kept e = rw e (some_phase m.phase)

-- ## One interval more of a recording

module _ (ws : List ℕ) (w : ℕ) where
  -- the recording is one longer ..
  pub long : length (on ws w) ≡ length ws + 1
  long = length-append ws (w ∷ [])

  -- .. and shows what it showed
  pub same : (j : ℕ) → j < length ws → (single ws).shows j ≡ (single (on ws w)).shows j
  same j h = shows_same ws (on ws w) j (sym (get_or-append ws (w ∷ []) 0 j h))

  here : get_or (on ws w) (length ws) 0 ≡ w
  here = get_or-append_seam ws w [] 0

  -- what the interval shows, by its place in the recording ..
  shown_here : (n : ℕ) → n ≡ length ws → meaning_of (sign_for (class_of (active_at n) w)) ≡ (single (on ws w)).shows (length ws)
  shown_here n e =
      sign_means (class_of (active_at n) w)
      ∙ ap₂ (λ (k x : ℕ). sign_of (class_of (active_at k) x)) e (sym here)
      ∙ sym (shows_class (on ws w) (length ws))

  -- .. and whether it is an end
  end_here : (n : ℕ) → n ≡ length ws → end_at (single (on ws w)) (length ws) ≡ end_of (active_at n) w
  end_here n e = end_width_law (on ws w) (length ws) ∙ rw (e, here)

module _ (ws : List ℕ) (xs : List Outcome) (v : Live) (h : Hears (single ws) xs v) (w : ℕ) where
  -- An interval before a frame decides nothing, and opens one where it is an end.
  pub waits : (entry : List ℕ) → v.places.next ≡ length ws → length ws ≤ last_place → (kept : List ℕ) → v.inside ≡ outside kept → most_bytes ≤ length kept
      → opening (single ws) v.places.from ≡ nowhere → Takes (single ws) (single (on ws w)) xs entry entry (waiting v w)
  waits entry at-k fits kept is has_space none =
      decides_nothing refl refl
      (begins_hears (single (on ws w)) (length ws) (long ws w) v at-k (rw (kept_outside kept is) has_space) xs v.places.from fits (reached_in (single ws) h.reached)
      (none_still (single ws) (single (on ws w)) (long ws w) (same ws w) v.places.from none)
      (ends_at v w) (end_here ws w v.places.next at-k) (reached_on (single ws) (single (on ws w)) (long ws w) (same ws w) h.reached))

  -- with bytes enough lent, and a place for the interval
  taken : (entry : List ℕ) → v.places.full ≡ 0 → v.places.next ≡ length ws → length ws ≤ last_place → most_bytes ≤ length entry
      → Rest (single ws) v.places v.inside → Takes (single ws) (single (on ws w)) xs entry (lent_of v w entry) (fed_of v w (length entry))
  unfolding fed_of lent_of taken_of laid_of
  taken entry none-full at-k fits enough (seeks kept is has_space none) =
      rw (eq-eqb v.places.full 0 none-full, le-ltb (length entry) most_bytes enough, out_of_frame kept is)
      (waits entry at-k fits kept is has_space none)
  taken entry none-full at-k fits enough (hears m kept is opens none stood) =
      rw (eq-eqb v.places.full 0 none-full, le-ltb (length entry) most_bytes enough, in_frame m kept is)
      (takes_next (single ws) (single (on ws w)) (long ws w) (same ws w) v xs h.reached at-k fits m kept is opens none stood w
      (shown_here ws w v.places.next at-k) (end_here ws w v.places.next at-k) entry enough)

  -- Where the interval has a place and twelve bytes are lent it is taken.
  pub takes_it : length ws ≤ last_place → (entry : List ℕ) → most_bytes ≤ length entry
      → Takes (single ws) (single (on ws w)) xs entry (lent_of v w entry) (fed_of v w (length entry))
  takes_it fits entry enough = go h.counts
    where
      go : Counts (length ws) v.places → Takes (single ws) (single (on ws w)) xs entry (lent_of v w entry) (fed_of v w (length entry))
      go (place_left f n x) = taken entry f n fits enough h.rest
      go (all_heard_law f n) = absurd (omega (arith, n, fits))
