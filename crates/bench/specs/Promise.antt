-- Definitions.
-- What each call on a row promises: its answer, and everything lent to it afterwards. The rows are the stations at entry and
-- at exit.
use Rattle.std.specs.Prelude.{ℕ, ◌≡◌, cond, List, Result, Ok, Err, length, replicate}
use Rattle.symbol.specs.declared.Clock.{Clock}
use Rattle.bench.specs.declared.Station.{Station}
use Rattle.bench.specs.declared.Fared.TheVariants.{Idle}
use Rattle.bench.specs.declared.Verdict.{Verdict}
use Rattle.bench.specs.declared.CallRefusal.{CallRefusal}
use Rattle.bench.specs.declared.RoundRefusal.{RoundRefusal}
use Rattle.bench.specs.declared.RoundAnswer.{RoundAnswer}
use Rattle.bench.specs.Stations.{most_stations}
use Rattle.bench.specs.Round.{Round, round_of, verdict_of, verdicts_of}
use Rattle.bench.specs.Calls.{load, withdraw, set_clock, round, number_of, taken, after, lent_after}

-- ## Loading, withdrawing and setting a clock

-- what such a call answers: that it is done, or why it is turned away
abbrev pub Called : Type 0
Called = Result (Unit {0}) CallRefusal

-- document 01's number for each case of the answer
abbrev pub called_number : Called → ℕ
called_number (Ok x) = 0
called_number (Err CallRefusal.RowSize) = 38
called_number (Err CallRefusal.UnsoundStation) = 39
called_number (Err CallRefusal.NoStation) = 40
called_number (Err CallRefusal.BadMessage) = 37
called_number (Err CallRefusal.BadClock) = 36
called_number (Err CallRefusal.Holding) = 41
called_number (Err CallRefusal.NothingWaiting) = 42

-- What loading a message at a place promises: the answer, and the row from entry to exit.
pub record LoadPromise (place : ℕ) (message : List ℕ) (entry exit : List Station) (answer : Called) : Type 0 where
  pub answers_it : called_number answer ≡ number_of (load place message) entry
  pub leaves_it : exit ≡ after (load place message) entry

-- What withdrawing from a place promises.
pub record WithdrawPromise (place : ℕ) (entry exit : List Station) (answer : Called) : Type 0 where
  pub answers_it : called_number answer ≡ number_of (withdraw place) entry
  pub leaves_it : exit ≡ after (withdraw place) entry

-- What setting the clock of a place promises.
pub record ClockPromise (place : ℕ) (clock : Clock) (entry exit : List Station) (answer : Called) : Type 0 where
  pub answers_it : called_number answer ≡ number_of (set_clock place clock) entry
  pub leaves_it : exit ≡ after (set_clock place clock) entry

-- ## A round

-- what a round answers: what came of it, or why it is turned away
abbrev pub RoundTold : Type 0
RoundTold = Result RoundAnswer RoundRefusal

-- document 01's number for each case of what is told
abbrev pub told_number : RoundTold → ℕ
told_number (Ok a) = 0
told_number (Err RoundRefusal.RowSize) = 38
told_number (Err RoundRefusal.UnsoundStation) = 39
told_number (Err RoundRefusal.FewLentWords) = 32
told_number (Err RoundRefusal.NobodyWaiting) = 42

-- A round's answer as the paper has it: its number, "for each of 32 places .. idle, through, or lost at bit k, with the
-- number of words written and the line time".
pub record RoundSaid : Type 0 where
  pub number : ℕ
  pub verdicts : List Verdict
  pub words : ℕ
  pub line_time : ℕ

-- the number and the values of a round that is played, and of one that is turned away
abbrev pub played : Round → RoundSaid
played r = record { number = 0; verdicts = verdicts_of r.fares; words = length r.words; line_time = r.line_time }

-- one that is turned away: all places idle, no words, no time
abbrev pub turned_away : ℕ → RoundSaid
turned_away number = record { number = number; verdicts = replicate most_stations (verdict_of Idle); words = 0; line_time = 0 }

-- the number and the values of the call's answer
abbrev pub said : RoundTold → RoundSaid
said (Ok a) = record { number = told_number (Ok a); verdicts = a.verdicts; words = a.words; line_time = a.line_time.0 }
said (Err e) = turned_away (told_number (Err e))

-- what a round on a row answers with these words lent
unfoldable pub round_says : List Station → List ℕ → RoundSaid
round_says row lent = cond (taken (round lent) row) (played (round_of row)) (turned_away (number_of (round lent) row))

-- What a round promises: the answer, the row and the lent words from entry to exit.
pub record RoundPromise (entry exit : List Station) (lent_entry lent_exit : List ℕ) (answer : RoundTold) : Type 0 where
  pub says_it : said answer ≡ round_says entry lent_entry
  pub leaves_it : exit ≡ after (round lent_entry) entry
  pub lends_it : lent_exit ≡ lent_after entry lent_entry
