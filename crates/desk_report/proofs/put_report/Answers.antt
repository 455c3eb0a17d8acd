-- `desk_report::put_report` meets its contract: the header, and the lines of all answers after it.
use Rattle.desk_report.proofs.Wholes.{header_space, lines_space, report_laid}
use borrow.Author.Rules.{rules}
use Rattle.desk_report.proofs.put_report.Goals as goal

pub put-k-requires : goal.put-k-requires
put-k-requires c = search (rules, header_space)

pub put_lines-requires : goal.put_lines-requires
put_lines-requires c =
    let a = c.args in
    lines_space a.input.now a.labels a.widths.now c.requires.space c.put-k.ensures

pub returns : goal.returns
returns c =
    let a = c.args in
    report_laid a.input.now a.labels a.widths.now c.requires.space c.put-k.ensures c.put_lines.ensures
