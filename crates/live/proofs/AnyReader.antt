-- Laws.
-- Whatever a reader's bytes are, also such as no call has left there: a frame that it tells of has at most twelve bytes.
use Rattle.std.specs.Prelude.{ℕ, ◌+◌, ◌≤◌, Bool, true, false, cond, not, eqb, ltb, Result, Ok, Err}
use Rattle.std.proofs.Common.{arith}
use Rattle.frame.specs.Faults.{most_bytes}
use Rattle.frame_machine.specs.declared.Phase.{Phase}
use Rattle.frame_machine.specs.declared.Phase.TheVariants.{Sof, Main, Normalization, Plain, Checked}
use Rattle.frame_machine.specs.declared.Machine.{Machine}
use Rattle.frame_machine.specs.declared.Event.{Event}
use Rattle.frame_machine.specs.declared.Event.TheVariants.{Going, Byte, Closed, Faulty as FaultyEvent}
use Rattle.frame_parts.specs.Parts.{parts_in, parts_of}
use Rattle.live_held.specs.declared.Inside.{Inside}
use Rattle.live_held.specs.declared.Live.{Live}
use Rattle.live_answer.specs.declared.Heard.{Heard}
use Rattle.live_answer.specs.declared.Heard.TheVariants.{Nothing, Frame, Faulty}
use Rattle.live_answer.specs.declared.HearRefusal.{HearRefusal}
use Rattle.live_answer.specs.declared.HearRefusal.TheVariants.{PastPlaces, FewLentBytes}
use Rattle.live_held.specs.HeldLaws.{held_few, held_within}
use Rattle.live_held.specs.Reader.{held_by}
use Rattle.live_taken.specs.Taken.{fed_by, step_at, ends_at, waiting}
use Rattle.live.specs.Feeding.{taken_of, refused_by, fed_of}
use Rattle.live_held.specs.Held.{no_frame}

-- how many bytes an answer tells of
abbrev pub bytes_told : Result Heard HearRefusal → ℕ
bytes_told (Ok Nothing) = 0
bytes_told (Ok (Frame lengths response opening next)) = lengths.main + lengths.response
bytes_told (Ok (Faulty fault next)) = 0
bytes_told (Err why) = 0

in_parts : (p : Phase) (m : Machine) → m.began ≤ m.count → (parts_in p m).lengths.main + (parts_in p m).lengths.response ≤ m.count
in_parts Sof m h = omega arith
in_parts Main m h = omega arith
in_parts Normalization m h = omega arith
in_parts Plain m h = omega arith
in_parts Checked m h = omega arith

held_parts : (i : Inside) → (parts_of (held_by i)).lengths.main + (parts_of (held_by i)).lengths.response ≤ most_bytes
held_parts i = omega (arith, held_few i, in_parts (held_by i).phase (held_by i) (held_within i))

by_event : (e : Event) (v : Live) (m : Machine) (b : Bool) → bytes_told (fed_by e v m b).heard ≤ most_bytes
by_event Going v m b = omega arith
by_event (Byte x) v m b = omega arith
by_event Closed v m b = held_parts v.inside
by_event (FaultyEvent f) v m b = omega arith

-- The lengths that an interval tells never reach past twelve lent bytes.
pub told_few : (v : Live) (w lent : ℕ) → bytes_told (fed_of v w lent).heard ≤ most_bytes
unfolding fed_of taken_of
told_few v w lent = go (eqb v.places.full 0) (ltb lent most_bytes) (eqb v.inside.phase no_frame)
  where
    go : (a b c : Bool)
        → bytes_told (cond (not a) (refused_by v PastPlaces) (cond b (refused_by v FewLentBytes) (cond c (waiting v w) (fed_by (step_at v w).event v (step_at v w).machine (ends_at v w))))).heard ≤ most_bytes
    go false b c = omega arith
    go true true c = omega arith
    go true false true = omega arith
    go true false false = by_event (step_at v w).event v (step_at v w).machine (ends_at v w)
