-- `live_held::begins_anew` meets its contract: an end opens, and anything else does not.
use Rattle.live_held.specs.Reader.{begins_anew}
use Rattle.live_held.proofs.begins_anew.Goals as goal

pub returns-then-end : goal.returns-then-end
unfolding begins_anew
returns-then-end c = rw (c.if-end.true, c.inside_of.ensures, c.start.ensures, c.after.ensures)

pub returns : goal.returns
unfolding begins_anew
returns c = rw (c.if-end.false, c.outside.ensures, c.after-2.ensures)
