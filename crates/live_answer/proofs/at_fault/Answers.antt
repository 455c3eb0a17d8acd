-- `live_answer::at_fault` meets its contract.
use Rattle.live_answer.proofs.at_fault.Goals as goal

pub returns : goal.returns
returns c = rw c.begins_anew.ensures
