-- `live_answer::closed` meets its contract: the parts are those that the machine tells of.
use Rattle.live_answer.proofs.closed.Goals as goal

pub returns : goal.returns
returns c = rw (c.begins_anew.ensures, c.parts_of-parts.ensures)
