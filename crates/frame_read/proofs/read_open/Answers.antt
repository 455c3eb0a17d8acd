-- `frame_read::read_open` meets its contract: a law of `Undecided` for each event, and for the end of the recording.
use mathlib.Core.Path.{ap}
use native.Mathlib.Omega.{arith}
use lib.ListN.{length}
use Rattle.frame_read.proofs.Undecided.{undecided_first, unfinished, goes_on, byte_fits, byte_kept, closed, at_fault}
use Rattle.frame_read.proofs.read_open.Goals as goal
use Rattle.frame_read.proofs.read_open.Goals.{in-Going, in-Byte}

pub loop-i-init : goal.loop-i-init
loop-i-init c = undecided_first c.start-held.ensures (omega arith)

pub bounds-kept-at : goal.bounds-kept-at
bounds-kept-at c = byte_fits c.loop-i.invariant c.loop-i-test.true c.class-symbol.ensures c.sign_of.ensures c.step-stepped.ensures c.in-Byte.is

pub shape_of-lent-in-Closed : goal.shape_of-lent-in-Closed
shape_of-lent-in-Closed c = omega (arith, ap length c.loop-i.invariant.as_lent)

pub returns-in-Closed : goal.returns-in-Closed
returns-in-Closed c = closed c.loop-i.invariant c.loop-i-test.true c.class-symbol.ensures c.sign_of.ensures c.step-stepped.ensures c.in-Closed.is c.requires.most_bytes_in_bounds c.lay.ensures c.framed.ensures

pub returns-in-Faulty : goal.returns-in-Faulty
returns-in-Faulty c = at_fault c.loop-i.invariant c.loop-i-test.true c.class-symbol.ensures c.sign_of.ensures c.step-stepped.ensures c.in-Faulty.is

pub loop-i-preserved : goal.loop-i-preserved
loop-i-preserved c =
    elim c.match-stepped.branch [
      | in-Going w ↦ rw w.kept-is (goes_on c.loop-i.invariant c.loop-i-test.true c.class-symbol.ensures c.sign_of.ensures c.step-stepped.ensures w.in-Going.is)
      | in-Byte w ↦ rw w.kept-is (byte_kept c.loop-i.invariant c.loop-i-test.true c.class-symbol.ensures c.sign_of.ensures c.step-stepped.ensures w.in-Byte.is)
    ]

pub returns : goal.returns
returns c = unfinished c.loop-i.invariant c.loop-i-test.false
