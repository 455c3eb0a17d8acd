-- `frame_write::put_frame` meets its contract: the parts of the frame, laid one after the other.
use Rattle.symbol.specs.Sending.{end_width}
use Rattle.frame_write.proofs.Words.{two_laid, main_space, main_laid, response_space, response_laid, closing_space, frame_laid}
use Rattle.frame_write.proofs.put_frame.Goals as goal

pub put_checked-eod-requires : goal.put_checked-eod-requires
put_checked-eod-requires c =
    let a = c.args in
    let head = two_laid end_width.0 a.clock.sof.0 c.copy_from_slice.ensures.after in
    main_space a.clock a.main.now a.kind a.response.now a.lent.now c.requires head c.check_byte.ensures

pub put_response-requires : goal.put_response-requires
put_response-requires c =
    let a = c.args in
    let head = two_laid end_width.0 a.clock.sof.0 c.copy_from_slice.ensures.after in
    let main = main_laid a.clock a.main.now a.kind a.response.now a.lent.now c.requires head c.check_byte.ensures c.put_checked-eod.ensures in
    response_space a.clock a.main.now a.kind a.response.now a.lent.now c.requires main

pub bounds-lent-closing : goal.bounds-lent-closing
bounds-lent-closing c =
    let a = c.args in
    let head = two_laid end_width.0 a.clock.sof.0 c.copy_from_slice.ensures.after in
    let main = main_laid a.clock a.main.now a.kind a.response.now a.lent.now c.requires head c.check_byte.ensures c.put_checked-eod.ensures in
    let reply = response_laid a.clock a.main.now a.kind a.response.now a.lent.now c.requires main c.put_response.ensures in
    closing_space a.clock a.main.now a.kind a.response.now a.lent.now c.requires reply

pub returns : goal.returns
returns c =
    let a = c.args in
    let head = two_laid end_width.0 a.clock.sof.0 c.copy_from_slice.ensures.after in
    let main = main_laid a.clock a.main.now a.kind a.response.now a.lent.now c.requires head c.check_byte.ensures c.put_checked-eod.ensures in
    let reply = response_laid a.clock a.main.now a.kind a.response.now a.lent.now c.requires main c.put_response.ensures in
    frame_laid a.clock a.main.now a.kind a.response.now a.lent.now c.requires reply
