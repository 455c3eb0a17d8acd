-- `frame_write::write` meets its contract: a law for each way out.
use Rattle.frame_write.proofs.Writes.{refuses_36, refuses_37, refuses_32, space, writes}
use Rattle.frame_write.proofs.write.Goals as goal

pub returns-then-not-good_clock : goal.returns-then-not-good_clock
returns-then-not-good_clock c =
    let a = c.args in
    refuses_36 a.clock a.main.now a.kind a.response.now a.lent.now c.good_clock.ensures c.if-not-good_clock.true

pub returns-then-bad_message : goal.returns-then-bad_message
returns-then-bad_message c =
    let a = c.args in
    refuses_37 a.clock a.main.now a.kind a.response.now a.lent.now c.good_clock.ensures c.if-not-good_clock.false c.bad_message.ensures c.if-bad_message.true

pub returns-then-few_words : goal.returns-then-few_words
returns-then-few_words c =
    let a = c.args in
    refuses_32 a.clock a.main.now a.kind a.response.now a.lent.now c.good_clock.ensures c.if-not-good_clock.false c.bad_message.ensures c.if-bad_message.false
    c.few_words.ensures c.if-few_words.true

pub put_frame-requires : goal.put_frame-requires
put_frame-requires c =
    let a = c.args in
    space a.clock a.main.now a.kind a.response.now a.lent.now c.bad_message.ensures c.if-bad_message.false c.few_words.ensures c.if-few_words.false

pub returns : goal.returns
returns c =
    let a = c.args in
    writes a.clock a.main.now a.kind a.response.now a.lent.now c.good_clock.ensures c.if-not-good_clock.false c.bad_message.ensures c.if-bad_message.false
    c.few_words.ensures c.if-few_words.false c.put_frame.ensures
