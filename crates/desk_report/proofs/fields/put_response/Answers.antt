-- `desk_report::put_response` meets its contract: the mark, and after it the bytes and the newline, or nothing.
use Rattle.desk_report.proofs.Laying.{none_left, space_next, space_last, next, last}
use Rattle.desk_report.proofs.Parts.{mark_space, without_left, with_left}
use Rattle.desk_report.proofs.fields.put_response.Goals as goal

pub put-marked-requires : goal.put-marked-requires
put-marked-requires c = mark_space c.args.kind c.args.s.now c.mark.ensures c.requires

pub returns-then-without : goal.returns-then-without
returns-then-without c =
    none_left (without_left c.args.kind c.args.s.now c.mark.ensures c.requires c.put-marked.ensures c.without.ensures c.if-without.true)

pub put_hex-requires : goal.put_hex-requires
put_hex-requires c =
    space_next _ _ (with_left c.args.kind c.args.s.now c.mark.ensures c.requires c.put-marked.ensures c.without.ensures c.if-without.false)

pub put-requires : goal.put-requires
put-requires c =
    let left = with_left c.args.kind c.args.s.now c.mark.ensures c.requires c.put-marked.ensures c.without.ensures c.if-without.false in
    space_last (next left c.put_hex.ensures)

pub returns : goal.returns
returns c =
    let left = with_left c.args.kind c.args.s.now c.mark.ensures c.requires c.put-marked.ensures c.without.ensures c.if-without.false in
    last (next left c.put_hex.ensures) c.put.ensures
