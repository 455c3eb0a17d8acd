-- `desk_judge::judge` meets its promise after a good first line.
use Rattle.std.proofs.Common.{rules}
use Rattle.desk_judge.proofs.Exits.{first_good}
use Rattle.desk_judge.proofs.judge.Goals as goal

pub returns : goal.returns
returns c =
    let f = c.in-Some.ensures in
    let h = c.if-lent-lt-MOST_WIDTHS.false in
    search (rules, first_good c.args.input.now c.args.lent.now h c.in-Some.e f.0 f.1)
