-- Definitions.
-- The answer of the call that reads, set out as document 01 tells it: its number, and the values that go with it.
use Rattle.std.specs.Prelude.{ℕ, ◌≡◌, List, [], ◌++◌, length, drop, Result, Ok, Err}
use Rattle.frame.specs.declared.Response.{Response}
use Rattle.frame.specs.declared.Response.TheVariants.{Without}
use Rattle.frame.specs.declared.Fault.{Fault}
use Rattle.frame.specs.declared.Fault.TheVariants.{Noise, NoSof, Break, Stuck, LateSof, SplitByte, FewBytes, WrongCheck, EodAfterResponse, ThirteenthByte}
use Rattle.frame.specs.declared.Reading.{Reading}
use Rattle.frame.specs.declared.Reading.TheVariants.{Frame, Quiet, Unfinished, Faulty}
use Rattle.frame.specs.declared.ReadRefusal.{ReadRefusal}
use Rattle.frame.specs.declared.ReadRefusal.TheVariants.{PastRecording, FewLentBytes}
use Rattle.frame.specs.Reading.{Outcome, good, quiet, unfinished, faulty, refused, reading}

-- the number of each fault
abbrev pub fault_number : Fault → ℕ
fault_number Noise = 11
fault_number NoSof = 12
fault_number Break = 13
fault_number Stuck = 14
fault_number LateSof = 15
fault_number SplitByte = 16
fault_number FewBytes = 17
fault_number WrongCheck = 18
fault_number EodAfterResponse = 19
fault_number ThirteenthByte = 20

-- An answer as the paper has it. A value that the row does not have is 0, and its response none.
pub record Told : Type 0 where
  pub number : ℕ
  pub next : ℕ
  pub opening : ℕ
  pub main_length : ℕ
  pub response_length : ℕ
  pub response : Response

-- an answer without a frame
abbrev pub bare : (number next opening : ℕ) → Told
bare number next opening =
    record { number = number; next = next; opening = opening; main_length = 0; response_length = 0; response = Without }

-- the number and the values of each case of the call's answer
abbrev pub told : Result Reading ReadRefusal → Told
told (Ok (Frame lengths response opening next)) =
    record { number = 0; next = next.0; opening = opening.0; main_length = lengths.main; response_length = lengths.response; response = response }
told (Ok (Quiet next)) = bare 1 next.0 0
told (Ok (Unfinished opening)) = bare 2 opening.0 opening.0
told (Ok (Faulty fault next)) = bare (fault_number fault) next.0 0
told (Err PastRecording) = bare 31 0 0
told (Err FewLentBytes) = bare 32 0 0

-- the number and the values of each outcome
abbrev pub tells : Outcome → Told
tells (good f) =
    record { number = 0; next = f.next; opening = f.opening; main_length = length f.main; response_length = length f.response; response = f.kind }
tells (quiet next) = bare 1 next 0
tells (unfinished opening) = bare 2 opening opening
tells (faulty number next) = bare number next 0
tells (refused number) = bare number 0 0

-- "On answer 0 the main bytes, then the response bytes, checks included, stand first in the lent bytes .. On any other
-- answer nothing is written."
abbrev pub written : Outcome → List ℕ
written (good f) = f.main ++ f.response
written (quiet next) = []
written (unfinished opening) = []
written (faulty number next) = []
written (refused number) = []

-- the lent bytes afterwards, "whose rest is unchanged"
abbrev pub lent_after : Outcome → List ℕ → List ℕ
lent_after r lent = written r ++ drop (length (written r)) lent

-- The promise of reading the intervals ws from position p: the answer, and the lent bytes from entry to exit.
pub record ReadPromise (ws : List ℕ) (p : ℕ) (entry exit : List ℕ) (answer : Result Reading ReadRefusal) : Type 0 where
  pub tells_it : told answer ≡ tells (reading ws p (length entry))
  pub lends_it : exit ≡ lent_after (reading ws p (length entry)) entry
