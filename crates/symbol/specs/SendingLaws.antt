-- Laws.
-- What a good clock sends is read as it was meant.
use Rattle.std.specs.Prelude.{ℕ, ◌≤◌, ◌≡◌, refl, Bool, true, false, ◌&&◌, None, Some, leb}
use Rattle.std.proofs.Common.{arith, leb-true, le-leb}
use Rattle.laws.specs.Tests.{both}
use Rattle.units.specs.declared.Micros.{Micros}
use Rattle.symbol.specs.declared.Symbol.{Symbol}
use Rattle.symbol.specs.declared.Symbol.TheVariants.{Noise, Bit0, Bit1, Eod, Sof, Eof, Ifs, Break, Stuck}
use Rattle.symbol.specs.declared.Clock.{Clock}
use Rattle.symbol.specs.Classes.{Window}
use Rattle.symbol.specs.Clocks.{within_of, good_of, nominal_clock}
use Rattle.symbol.specs.Sending.{end_width, sent_of, SendingWindow}
use Rattle.symbol.specs.Clocks.{Good}

inside : (first last w : ℕ) → within_of first last w ≡ true → (first ≤ w) × (w ≤ last)
inside first last w e =
    let h = both (leb first w) (leb w last) e in
    (leb-true first w h.0, leb-true w last h.1)

-- The test for the sending windows says true exactly for the clocks that lie in them.
pub good : (c : Clock) → good_of c ≡ true → Good c
unfolding good_of
good c e =
    let h = both (within_of 49 79 c.short.0) (within_of 112 145 c.long.0 && within_of 182 218 c.sof.0) e in
    let k = both (within_of 112 145 c.long.0) (within_of 182 218 c.sof.0) h.1 in
    record {
      short = inside 49 79 c.short.0 h.0;
      long = inside 112 145 c.long.0 k.0;
      sof = inside 182 218 c.sof.0 k.1;
    }

-- The other way round: it says true for all of them.
pub good_test : (c : Clock) → Good c → good_of c ≡ true
unfolding good_of
good_test c g =
    rw (
      le-leb 49 c.short.0 g.short.0,
      le-leb c.short.0 79 g.short.1,
      le-leb 112 c.long.0 g.long.0,
      le-leb c.long.0 145 g.long.1,
      le-leb 182 c.sof.0 g.sof.0,
      le-leb c.sof.0 218 g.sof.1,
    )

-- The nominal clock is one of them.
pub nominal_good : good_of nominal_clock ≡ true
unfolding good_of
nominal_good = refl

unsent : {A : Type 0} {w : Micros} → None ≡ Some w → A
unsent e = let z : ◌≡◌ {A = ℕ} 0 1 = cc in absurd (omega arith)

-- Every width that a good clock sends for a symbol lies in that symbol's sending window.
pub sent_in : (c : Clock) (active : Bool) (s : Symbol) (w : Micros) → Good c → sent_of c active s ≡ Some w → SendingWindow active s w.0
sent_in c false Bit0 w g e = let d : c.short ≡ w = cc in rw (← d) g.short
sent_in c false Bit1 w g e = let d : c.long ≡ w = cc in rw (← d) g.long
sent_in c false Eod w g e = let d : c.sof ≡ w = cc in rw (← d) g.sof
sent_in c false Ifs w g e = let d : end_width ≡ w = cc in rw (← d)
sent_in c false Noise w g e = unsent e
sent_in c false Sof w g e = unsent e
sent_in c false Eof w g e = unsent e
sent_in c false Break w g e = unsent e
sent_in c false Stuck w g e = unsent e
sent_in c true Bit0 w g e = let d : c.long ≡ w = cc in rw (← d) g.long
sent_in c true Bit1 w g e = let d : c.short ≡ w = cc in rw (← d) g.short
sent_in c true Sof w g e = let d : c.sof ≡ w = cc in rw (← d) g.sof
sent_in c true Noise w g e = unsent e
sent_in c true Eod w g e = unsent e
sent_in c true Eof w g e = unsent e
sent_in c true Ifs w g e = unsent e
sent_in c true Break w g e = unsent e
sent_in c true Stuck w g e = unsent e

-- The sending windows lie inside the receiving ones.
pub sending_inside : (active : Bool) (s : Symbol) (w : ℕ) → SendingWindow active s w → Window active s w
sending_inside false Bit0 w h = (omega arith, omega arith)
sending_inside false Bit1 w h = (omega arith, omega arith)
sending_inside false Eod w h = (omega arith, omega arith)
sending_inside false Ifs w h = omega arith
sending_inside false Noise w h = absurd h
sending_inside false Sof w h = absurd h
sending_inside false Eof w h = absurd h
sending_inside false Break w h = absurd h
sending_inside false Stuck w h = absurd h
sending_inside true Bit0 w h = (omega arith, omega arith)
sending_inside true Bit1 w h = (omega arith, omega arith)
sending_inside true Sof w h = (omega arith, omega arith)
sending_inside true Noise w h = absurd h
sending_inside true Eod w h = absurd h
sending_inside true Eof w h = absurd h
sending_inside true Ifs w h = absurd h
sending_inside true Break w h = absurd h
sending_inside true Stuck w h = absurd h
