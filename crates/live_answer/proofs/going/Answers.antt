-- `live_answer::going` meets its contract.
use Rattle.live_answer.proofs.going.Goals as goal

pub returns : goal.returns
returns c = rw c.goes_on.ensures
