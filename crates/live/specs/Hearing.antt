-- Definitions.
-- What a live reader knows that was started and has heard the intervals of a line, one after the other, all by what reading
-- that line says. It is a step on the way: what live reading comes to, `live_whole`, `delivered_whole` and
-- `calls_whole`, is said without it.
use Rattle.std.specs.Prelude.{ℕ, ◌+◌, ◌≤◌, ◌≡◌, true, List, [], ◌∷◌, ◌++◌, length}
use Rattle.frame.specs.Line.{Line, nowhere, at, first_in, opening}
use Rattle.frame.specs.Faults.{most_bytes}
use Rattle.frame.specs.Reading.{Outcome, decides}
use Rattle.frame.specs.ReadPromise.{tells, lent_after}
use Rattle.frame.specs.ReadStated.{goes_on}
use Rattle.frame.specs.ReadingOn.{next_of, Reaches}
use Rattle.frame.proofs.RecordingOn.{on_line}
use Rattle.frame_machine.specs.declared.Machine.{Machine}
use Rattle.frame_machine.specs.Stated.{Keeping}
use Rattle.live_held.specs.declared.Places.{Places}
use Rattle.live_held.specs.declared.Inside.{Inside}
use Rattle.live_held.specs.declared.Live.{Live}
use Rattle.live_answer.specs.declared.Fed.{Fed}
use Rattle.live_held.specs.Held.{last_place, all_heard, outside, inside_of}
use Rattle.live.specs.Promise.{told_by}

-- The frames and faults of a line, each read from the next position of the one before, the first from 0, as far as they are
-- told; and the position from which reading goes on.
abbrev pub ToldSoFar : Line → ℕ → List Outcome → Type 0
ToldSoFar l p xs = Reaches (on_line most_bytes l most_bytes) 0 p xs

-- n intervals have been heard: the next one's place is n, or there is no place more
pub data Counts (n : ℕ) (p : Places) : Type 0 where
  place_left : p.full ≡ 0 → p.next ≡ n → n ≤ last_place → Counts n p
  all_heard_law : p.full ≡ all_heard → n ≡ last_place + 1 → Counts n p

-- From the position at which reading goes on there is no opening yet; or there is one, no interval after it decides its
-- frame, and the machine holds what stands before the next interval.
pub data Rest (l : Line) (p : Places) (i : Inside) : Type 0 where
  seeks : (kept : List ℕ) → i ≡ outside kept → most_bytes ≤ length kept → opening l p.from ≡ nowhere → Rest l p i
  hears : (m : Machine) (kept : List ℕ) → i ≡ inside_of m kept → opening l p.from ≡ at p.opening
      → first_in (decides most_bytes l p.opening) (p.opening + 1) l.count ≡ nowhere → Keeping most_bytes l p.opening l.count m kept → Rest l p i

-- The reader has heard the line, and has told of the frames and faults xs.
pub record Hears (l : Line) (xs : List Outcome) (v : Live) : Type 0 where
  pub reached : ToldSoFar l v.places.from xs
  pub counts : Counts l.count v.places
  pub rest : Rest l v.places v.inside

-- What an interval does that is not refused, which makes l' of the line l: it decides nothing, and the lent bytes stay; or it
-- decides a frame or a fault, which is told at its place and is the next that reading the whole line tells.
pub data Takes (l l' : Line) (xs : List Outcome) (entry exit : List ℕ) (fed : Fed) : Type 0 where
  decides_nothing : told_by fed.heard ≡ [] → exit ≡ entry → Hears l' xs fed.live → Takes l l' xs entry exit fed
  decides_one : (x : Outcome) → goes_on x ≡ true → next_of x ≡ l.count → told_by fed.heard ≡ tells x ∷ []
      → exit ≡ lent_after x entry → Hears l' (xs ++ (x ∷ [])) fed.live → Takes l l' xs entry exit fed
