-- `desk_report::put_number` meets its contract: the digits that were made are the decimal numeral.
use Rattle.desk_report.proofs.Laying.{number_space, number_laid}
use borrow.Author.Rules.{rules}
use Rattle.desk_report.proofs.fields.put_number.Goals as goal

pub put-requires : goal.put-requires
put-requires c = search (rules, number_space)

pub returns : goal.returns
returns c = search (rules, number_laid)
