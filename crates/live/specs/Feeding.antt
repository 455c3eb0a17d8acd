-- Machinery.
-- One interval more for a live reader, as the code takes it: document 02, request 1. What it has to do with reading the
-- whole recording is shown in Whole.antt.
use Rattle.std.specs.Prelude.{ℕ, cond, not, List, eqb, leb, ltb, length, replicate, Result, Ok, Err}
use Rattle.frame.specs.Faults.{most_bytes}
use Rattle.frame_machine.specs.declared.Phase.TheVariants.{Sof}
use Rattle.live_held.specs.declared.Live.{Live}
use Rattle.live_held.specs.Held.{no_frame, phase_number, outside}
use Rattle.live_answer.specs.declared.HearRefusal.{HearRefusal}
use Rattle.live_answer.specs.declared.HearRefusal.TheVariants.{PastPlaces, FewLentBytes}
use Rattle.live_answer.specs.declared.Fed.{Fed}
use Rattle.live_answer.specs.Answered.{long_place}
use Rattle.live_taken.specs.Taken.{fed_by, step_at, ends_at, waiting, laid_by}
use Rattle.live.specs.declared.Asked.{Asked}
use Rattle.live.specs.declared.Asked.TheVariants.{Quiet, Unfinished}

-- a reader that has heard nothing
unfoldable pub started : Live
started =
    record { places = record { next = 0; from = 0; opening = 0; full = 0 }; inside = outside (replicate most_bytes 0) }

-- ## One interval

-- an interval that is not refused
unfoldable pub taken_of : Live → ℕ → Fed
taken_of v w =
    cond (eqb v.inside.phase no_frame) (waiting v w)
    (fed_by (step_at v w).event v (step_at v w).machine (ends_at v w))

-- an interval that is refused
abbrev pub refused_by : Live → HearRefusal → Fed
refused_by v why = record { heard = Err why; live = v }

-- the refusal of an interval with so many bytes lent, and nothing where it is taken
unfoldable pub refusal_of : Live → (lent : ℕ) → Result (Unit {0}) HearRefusal
refusal_of v lent = cond (not (eqb v.places.full 0)) (Err PastPlaces) (cond (ltb lent most_bytes) (Err FewLentBytes) (Ok tt))

-- An interval of the width w, with so many bytes lent: 51 for one "past the last" place, then 32, "judged last on every
-- interval".
unfoldable pub fed_of : Live → (w lent : ℕ) → Fed
fed_of v w lent =
    cond (not (eqb v.places.full 0)) (refused_by v PastPlaces)
    (cond (ltb lent most_bytes) (refused_by v FewLentBytes)
    (taken_of v w))

-- the lent bytes after an interval that is not refused
unfoldable pub laid_of : Live → (w : ℕ) → List ℕ → List ℕ
laid_of v w lent = cond (eqb v.inside.phase no_frame) lent (laid_by (step_at v w).event v.inside lent)

-- the lent bytes after an interval of the width w
unfoldable pub lent_of : Live → (w : ℕ) → List ℕ → List ℕ
lent_of v w lent =
    cond (not (eqb v.places.full 0)) lent
    (cond (ltb (length lent) most_bytes) lent
    (laid_of v w lent))

-- ## Asking

-- "at the moment of asking": quiet where there is no opening, or no interval after it, and otherwise unfinished
unfoldable pub asked_of : Live → Asked
asked_of v =
    cond (leb v.inside.phase (phase_number Sof)) (Quiet (long_place v.places.from)) (Unfinished (long_place v.places.opening))
