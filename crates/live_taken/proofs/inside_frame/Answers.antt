-- `live_taken::inside_frame` meets its contract: each event of the machine is a line of the definition for its event.
use mathlib.Core.Path.{◌∙◌}
use Rattle.live_taken.proofs.Events.{Steps, steps_by, fed_by_law, laid_by_law}
use Rattle.frame_machine.proofs.Space.{has_space}
use Rattle.live_taken.proofs.inside_frame.Goals as goal
use Rattle.live_taken.proofs.inside_frame.Goals.{After-step-stepped}

-- What the code has at hand is the step of the definition.
steps : (c : After-step-stepped) → Steps c.args.live c.args.width.0 c.is_end-end.result c.step-stepped.result
steps c =
    steps_by c.args.live c.args.width.0 _ _ _ _ _ _ c.active_at-active.ensures c.is_end-end.ensures c.held_by-held.ensures c.class.ensures
    c.sign_of-sign.ensures c.step-stepped.ensures

pub bounds-kept-held : goal.bounds-kept-held
bounds-kept-held c = has_space _ c.held_by-held.result c.sign_of-sign.result _ _ c.step-stepped.ensures c.in-Byte.is

pub returns-in-Going : goal.returns-in-Going
returns-in-Going c =
    let s = steps (goal.at.returns-in-Going c).After-step-stepped in
    record { value = c.going.ensures ∙ fed_by_law _ _ _ _ s _ c.in-Going.is; lent_after = laid_by_law _ _ _ _ s _ c.in-Going.is _ }

pub returns-in-Byte : goal.returns-in-Byte
returns-in-Byte c =
    let s = steps (goal.at.returns-in-Byte c).After-step-stepped in
    record { value = rw c.held_by-held.ensures at c.going-in-Byte.ensures ∙ fed_by_law _ _ _ _ s _ c.in-Byte.is; lent_after = laid_by_law _ _ _ _ s _ c.in-Byte.is _ }

pub returns-in-Closed : goal.returns-in-Closed
returns-in-Closed c =
    let s = steps (goal.at.returns-in-Closed c).After-step-stepped in
    record { value = rw c.held_by-held.ensures at c.closed.ensures ∙ fed_by_law _ _ _ _ s _ c.in-Closed.is; lent_after = rw c.held_by-held.ensures at c.lay.ensures ∙ laid_by_law _ _ _ _ s _ c.in-Closed.is _ }

pub returns-in-Faulty : goal.returns-in-Faulty
returns-in-Faulty c =
    let s = steps (goal.at.returns-in-Faulty c).After-step-stepped in
    record { value = c.at_fault.ensures ∙ fed_by_law _ _ _ _ s _ c.in-Faulty.is; lent_after = laid_by_law _ _ _ _ s _ c.in-Faulty.is _ }
