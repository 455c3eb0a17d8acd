-- `live_taken::outside_frame` meets its contract.
use Rattle.live_taken.proofs.outside_frame.Goals as goal

pub returns : goal.returns
returns c = rw (c.begins_anew.ensures, c.is_end-end.ensures, c.active_at.ensures)
