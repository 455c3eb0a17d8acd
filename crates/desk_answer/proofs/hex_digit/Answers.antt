-- `desk_answer::hex_digit` meets its contract: a numeral, or a capital letter.
use Rattle.desk_answer.specs.HexLaws.{hex_low, hex_high}
use borrow.Author.Rules.{rules}
use Rattle.desk_answer.proofs.hex_digit.Goals as goal

pub returns-then-d-lt10 : goal.returns-then-d-lt10
returns-then-d-lt10 c = search (rules, hex_low)

pub returns-else-d-lt10 : goal.returns-else-d-lt10
returns-else-d-lt10 c = search (rules, hex_high)
