-- Definitions.
-- The answer of the call that writes, set out as document 01 tells it: its number, and how many words it wrote.
use Rattle.std.specs.Prelude.{ℕ, ◌≡◌, Result, Ok, Err, List, ◌++◌, length, drop}
use Rattle.symbol.specs.declared.Clock.{Clock}
use Rattle.frame.specs.declared.Response.{Response}
use Rattle.frame.specs.declared.WriteRefusal.{WriteRefusal}
use Rattle.frame.specs.declared.WriteRefusal.TheVariants.{BadClock, BadMessage, FewLentWords}
use Rattle.frame.specs.Writing.{Sheet, words, turned_away, writing}

-- An answer of the call as the paper has it: the number of its refusal, 0 where there is none, and the number of words.
pub record Count : Type 0 where
  pub number : ℕ
  pub count : ℕ

-- the number of each refusal
abbrev pub refusal_number : WriteRefusal → ℕ
refusal_number BadClock = 36
refusal_number BadMessage = 37
refusal_number FewLentWords = 32

-- the number and the count of each case of the call's answer
abbrev pub counted : Result ℕ WriteRefusal → Count
counted (Ok n) = record { number = 0; count = n }
counted (Err e) = record { number = refusal_number e; count = 0 }

-- the number and the count of what writing comes to
abbrev pub counts : Sheet → Count
counts (words ws) = record { number = 0; count = length ws }
counts (turned_away n) = record { number = n; count = 0 }

-- the lent words afterwards: "words past those written are unchanged"
abbrev pub words_after : Sheet → List ℕ → List ℕ
words_after (words ws) lent = ws ++ drop (length ws) lent
words_after (turned_away n) lent = lent

-- The promise of writing: the answer, and the lent words from entry to exit.
pub record WritePromise (c : Clock) (main : List ℕ) (kind : Response) (rs : List ℕ) (entry exit : List ℕ) (answer : Result ℕ WriteRefusal) : Type 0 where
  pub counts_it : counted answer ≡ counts (writing c main kind rs (length entry))
  pub lends_it : exit ≡ words_after (writing c main kind rs (length entry)) entry
