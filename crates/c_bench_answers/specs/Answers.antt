-- Definitions.
-- What the exported calls on a row give: the answers of the held row, with document 01's number first and a number for how each
-- place fared.
use Rattle.std.specs.Prelude.{ℕ, map}
use Rattle.bench.specs.declared.Fared.{Fared}
use Rattle.bench.specs.declared.Fared.TheVariants.{Idle, Through, Lost}
use Rattle.bench.specs.declared.Verdict as held
use Rattle.bench.specs.Promise.{RoundSaid}
use Rattle.c_bench_answers.specs.declared.CallAnswer.{CallAnswer}
use Rattle.c_bench_answers.specs.declared.Verdict.{Verdict}
use Rattle.c_bench_answers.specs.declared.RoundAnswer.{RoundAnswer}

-- loading, withdrawing and setting a clock: the number alone
abbrev pub called_as : ℕ → CallAnswer
called_as n = record { number = n }

-- how a place fared: 0 idle, 1 through, 2 lost, and then the bit at which it lost
abbrev pub fared_as : Fared → Verdict
fared_as Idle = record { fared = 0; bit = 0 }
fared_as Through = record { fared = 1; bit = 0 }
fared_as (Lost bit) = record { fared = 2; bit = bit }

-- the same of a verdict
abbrev pub verdict_as : held.Verdict → Verdict
verdict_as v = fared_as v.fared

-- a round: its number, the line time, the number of words written, and how each of the 32 places fared
abbrev pub round_as : RoundSaid → RoundAnswer
round_as s = record { number = s.number; line_time = s.line_time; words = s.words; verdicts = map verdict_as s.verdicts }
