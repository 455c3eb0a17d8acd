-- `desk::text_in` meets its contract: a law of `Sizes` for each way out.
use Rattle.desk.proofs.Sizes.{text_ok, text_report, text_refusal}
use borrow.Author.Rules.{rules}
use Rattle.desk.proofs.text_in.Goals as goal

pub unwrap-requires : goal.unwrap-requires
unwrap-requires c = search (rules, text_ok)

pub returns-in-Report : goal.returns-in-Report
returns-in-Report c = search (rules, text_report)

pub returns-in-Refused : goal.returns-in-Refused
returns-in-Refused c = search (rules, text_refusal)
