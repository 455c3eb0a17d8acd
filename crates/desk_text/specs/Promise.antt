-- Definitions.
-- What the desk's two calls promise: judging an input into lent words, and writing the whole text into lent bytes.
-- Two numbers here are ours, where document 01 has none: 61 for a call that is lent too little, 62 for an input that is bad.
use Rattle.std.specs.Prelude.{ℕ, ◌+◌, ◌*◌, ◌≡◌, cond, List, [], ◌∷◌, ◌++◌, eqb, length, drop, Result, Ok, Err}
use Rattle.laws.specs.Meant.{Test, below, equals, either, is_not}
use Rattle.laws.specs.Rules.{Rule, rule, first_rule}
use Rattle.desk_text.specs.declared.GoodInput.{GoodInput}
use Rattle.desk_text.specs.declared.InputRefusal.{InputRefusal}
use Rattle.desk_text.specs.declared.InputRefusal.TheVariants.{Bad, FewLentWords}
use Rattle.desk_text.specs.declared.Answered.{Answered}
use Rattle.desk_text.specs.declared.Answered.TheVariants.{Report, Refused}
use Rattle.desk_text.specs.declared.FewLent.{FewLent}
use Rattle.desk_text.specs.Input.{Line, lines, first_bad, customer_of, vehicle_of, recording_of, most_widths}
use Rattle.desk_text.specs.Report.{desk_of}

-- ## The rules

-- 61 in judging: 16,384 words are asked for, however few the input needs
abbrev pub few_words : (lent : ℕ) → Test
few_words lent = below lent most_widths

-- the bytes that are enough for every text: the header's 40, 55 for the last line, and 27 for each interval
abbrev pub most_text : ℕ
most_text = 40 + 55 + 27 * most_widths

-- 61 in the desk's call: too few words or too few bytes are lent
abbrev pub lent_short : (words bytes : ℕ) → Test
lent_short words bytes = either (few_words words) (below bytes most_text)

-- 62: some line is bad
abbrev pub some_line_bad : List Line → Test
some_line_bad ls = is_not (equals (first_bad ls) 0)

-- the rules of judging the bytes s with so many words lent, in their order
abbrev pub judge_rules : List ℕ → (lent : ℕ) → List Rule
judge_rules s lent = rule 61 (few_words lent) ∷ rule 62 (some_line_bad (lines s)) ∷ []

-- the rules of the desk's call for the bytes s with so many words and bytes lent, in their order
abbrev pub desk_rules : List ℕ → (words bytes : ℕ) → List Rule
desk_rules s words bytes = rule 61 (lent_short words bytes) ∷ rule 62 (some_line_bad (lines s)) ∷ []

-- the line that goes with a number: the first bad one with 62, and 0 otherwise
abbrev pub line_by : ℕ → List Line → ℕ
line_by number ls = cond (eqb number 62) (first_bad ls) 0

-- what is laid down stands first in lent memory, and the rest is unchanged
abbrev pub laid_on : List ℕ → List ℕ → List ℕ
laid_on laid lent = laid ++ drop (length laid) lent

-- what is laid down in the lent words: the widths of a good input, and nothing where too little is lent or the input is bad
abbrev pub laid_words : ℕ → List ℕ → List ℕ
laid_words number s = cond (eqb number 0) (recording_of (lines s)) []

-- ## Judging

-- the number and the values of an answer to judging; a value that it does not have is 0
pub record JudgedTale : Type 0 where
  pub number : ℕ
  pub line : ℕ
  pub customer : ℕ
  pub vehicle : ℕ
  pub widths : ℕ

-- the number and the values of each case of the answer to judging
abbrev pub judged_told : Result GoodInput InputRefusal → JudgedTale
judged_told (Ok good) =
    record { number = 0; line = 0; customer = good.labels.customer; vehicle = good.labels.vehicle; widths = good.widths }
judged_told (Err (Bad line)) = record { number = 62; line = line; customer = 0; vehicle = 0; widths = 0 }
judged_told (Err FewLentWords) = record { number = 61; line = 0; customer = 0; vehicle = 0; widths = 0 }

-- a value of a good input alone
abbrev pub if_good : ℕ → ℕ → ℕ
if_good number value = cond (eqb number 0) value 0

-- what judging comes to, by the number of the first rule that holds: a good input's labels and widths, by their lengths, where
-- none does; the first bad line with 62
abbrev pub judging_by : ℕ → List Line → JudgedTale
judging_by number ls = record {
  number = number;
  line = line_by number ls;
  customer = if_good number (length (customer_of ls));
  vehicle = if_good number (length (vehicle_of ls));
  widths = if_good number (length (recording_of ls));
}

-- Judging the bytes s with so many words lent.
unfoldable pub judging : List ℕ → (lent : ℕ) → JudgedTale
judging s lent = judging_by (first_rule (judge_rules s lent)) (lines s)

-- The promise of judging the bytes s: the answer, and the lent words from entry to exit.
pub record JudgePromise (s entry exit : List ℕ) (answer : Result GoodInput InputRefusal) : Type 0 where
  pub tells_it : judged_told answer ≡ judging s (length entry)
  pub lends_it : exit ≡ laid_on (laid_words (judging s (length entry)).number s) entry

-- ## The whole text

-- the number and the values of the desk's answer: the first bad line, and how many bytes the text has
pub record DeskTale : Type 0 where
  pub number : ℕ
  pub line : ℕ
  pub length : ℕ

-- the number and the values of each case of the desk's answer
abbrev pub answered_told : Result Answered FewLent → DeskTale
answered_told (Ok (Report length)) = record { number = 0; line = 0; length = length }
answered_told (Ok (Refused line length)) = record { number = 62; line = line; length = length }
answered_told (Err few) = record { number = 61; line = 0; length = 0 }

-- what is laid down in the lent bytes: the text, and nothing where too little is lent
abbrev pub laid_text : ℕ → List ℕ → List ℕ
laid_text number s = cond (eqb number 61) [] (desk_of s)

-- what the desk's call comes to, by the number of the first rule that holds: the text that is laid, a report where none does
-- and the refusal of the input at its first bad line with 62
abbrev pub answering_by : ℕ → List ℕ → DeskTale
answering_by number s = record { number = number; line = line_by number (lines s); length = length (laid_text number s) }

-- Answering the bytes s with so many words and bytes lent.
unfoldable pub answering : List ℕ → (words bytes : ℕ) → DeskTale
answering s words bytes = answering_by (first_rule (desk_rules s words bytes)) s

-- The promise of the desk for the bytes s: the answer, the lent words and the lent bytes.
pub record DeskPromise (s words_entry words_exit entry exit : List ℕ) (answer : Result Answered FewLent) : Type 0 where
  pub tells_it : answered_told answer ≡ answering s (length words_entry) (length entry)
  pub words_it : words_exit ≡ laid_on (laid_words (answering s (length words_entry) (length entry)).number s) words_entry
  pub lends_it : exit ≡ laid_on (laid_text (answering s (length words_entry) (length entry)).number s) entry
