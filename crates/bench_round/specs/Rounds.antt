-- Machinery.
-- A round on a row by value: what it answers, the held row after it, and the words that it leaves.
use Rattle.std.specs.Prelude.{ℕ, ◌≡◌, List, Result, Ok, Err, map, length, get_or}
use Rattle.laws.specs.Rules.{first_rule}
use Rattle.bench.specs.declared.Station.{Station}
use Rattle.bench.specs.declared.Fared.{Fared}
use Rattle.bench.specs.declared.Fared.TheVariants.{Idle}
use Rattle.bench.specs.declared.Verdict.{Verdict}
use Rattle.bench.specs.declared.RoundRefusal.{RoundRefusal}
use Rattle.bench.specs.Stations.{blank}
use Rattle.bench.specs.Round.{round_of, verdict_of, after_fare, after_fares}
use Rattle.bench.specs.Calls.{round_rules, written}
use Rattle.bench.specs.Promise.{RoundTold, told_number, said, played}
use Rattle.bench_row.specs.declared.HeldRow.{HeldRow}
use Rattle.bench_row.specs.declared.survey.Survey.{Survey}
use Rattle.bench_round.specs.declared.Played.{Played}
use Rattle.bench_row.specs.Surveys.{survey_of}

-- the number of the first rule that turns a round away
unfoldable pub round_number : ℕ → Survey → ℕ → ℕ
round_number n v lent = first_rule (round_rules n v.sound lent v.empty)

-- the same for a held row and lent words
abbrev pub number_on : HeldRow → List ℕ → ℕ
number_on b lent = round_number b.count (survey_of b.at) (length lent)

-- the number of the rule that turns a round away, and 0 where none does
abbrev pub refused_number : Result (Unit {0}) RoundRefusal → ℕ
refused_number (Ok x) = 0
refused_number (Err e) = told_number (Err e)

-- how the places fared, of their verdicts
abbrev pub fares_in : List Verdict → List Fared
fares_in verdicts = map (λ (v : Verdict). v.fared) verdicts

-- a station by the verdict at its place
abbrev pub after_verdict : List Station → List Verdict → ℕ → Station
after_verdict at verdicts i = after_fare (get_or verdicts i (verdict_of Idle)).fared (get_or at i blank)

-- all stations after a round, by their verdicts
unfoldable pub after_verdicts : List Station → List Verdict → List Station
after_verdicts at verdicts = after_fares (fares_in verdicts) at

-- what a round that is played comes to: its answer, the held row after it, and the words that it leaves
pub record Plays (b : HeldRow) (lent lent' : List ℕ) (r : Played) : Type 0 where
  pub passes : number_on b lent ≡ 0
  pub says : said (Ok r.answer) ≡ played (round_of b.at)
  pub leaves : r.held ≡ record { at = after_fares (round_of b.at).fares b.at; count = b.count }
  pub lends : lent' ≡ written (round_of b.at).words lent

-- What a round comes to: where no rule turns it away it is played, and else its refusal has that rule's number, and the words are
-- as they were. The caller still has its own row.
abbrev pub PlayedBy : HeldRow → (lent lent' : List ℕ) → Result Played RoundRefusal → Type 0
PlayedBy b lent lent' (Ok r) = Plays b lent lent' r
PlayedBy b lent lent' (Err e) = (told_number (Err e) ≡ number_on b lent) × (lent' ≡ lent)

-- what the caller is told of a round, and the held row that it has afterwards: its own where the round was turned away
abbrev pub told_in : Result Played RoundRefusal → RoundTold
told_in (Ok r) = Ok r.answer
told_in (Err e) = Err e

-- the held row
abbrev pub held_after : HeldRow → Result Played RoundRefusal → HeldRow
held_after b (Ok r) = r.held
held_after b (Err e) = b
