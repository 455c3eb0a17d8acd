-- `desk_report::put_frame` meets its contract: four texts, one after another.
use mathlib.Core.Path.{sym}
use lib.Seq.{length-take-le}
use borrow.Author.Rules.{rules}
use Rattle.desk_report.proofs.Laying.{space_first, first, space_next, space_last, next, last}
use Rattle.desk_report.proofs.Parts.{frame_parts}
use Rattle.desk_report.proofs.fields.put_frame.Goals as goal

pub put-k1-requires : goal.put-k1-requires
put-k1-requires c = space_first _ _ (rw (frame_parts c.args.lengths c.args.kind c.args.s.now) at c.requires.space)

pub slice_bounds-put_hex-end : goal.slice_bounds-put_hex-end
slice_bounds-put_hex-end c = sym (length-take-le _ _ (search rules))

pub put_hex-requires : goal.put_hex-requires
put_hex-requires c =
    space_next _ _ (first (rw (frame_parts c.args.lengths c.args.kind c.args.s.now) at c.requires.space) c.put-k1.ensures)

pub put-requires : goal.put-requires
put-requires c =
    let worded = first (rw (frame_parts c.args.lengths c.args.kind c.args.s.now) at c.requires.space) c.put-k1.ensures in
    space_next _ _ (next worded c.put_hex.ensures)

pub put_response-requires : goal.put_response-requires
put_response-requires c =
    let worded = first (rw (frame_parts c.args.lengths c.args.kind c.args.s.now) at c.requires.space) c.put-k1.ensures in
    space_last (next (next worded c.put_hex.ensures) c.put.ensures)

pub returns : goal.returns
returns c =
    let parts = frame_parts c.args.lengths c.args.kind c.args.s.now in
    let worded = first (rw parts at c.requires.space) c.put-k1.ensures in
    rw parts (last (next (next worded c.put_hex.ensures) c.put.ensures) c.put_response.ensures)
