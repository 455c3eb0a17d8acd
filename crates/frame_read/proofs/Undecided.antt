-- The intervals after an opening, one after the other, as long as none decides: what is known before each, and what the machine's
-- event at it leads to.
use Prim.Native.Nat.{ℕ, ◌+◌, ◌≤◌, ◌<◌}
use mathlib.Core.Path.{◌≡◌, refl, sym, ap, ◌∙◌}
use mathlib.Core.Bool.{Bool, true, false, cond}
use mathlib.Core.List.{List}
use native.Mathlib.Omega.{arith}
use lib.ListN.{length, get_or, set, take}
use Rattle.symbol.specs.declared.Symbol.{Symbol}
use Rattle.symbol.specs.Classes.{class_of}
use Rattle.frame.specs.declared.Fault.{Fault}
use Rattle.frame.specs.declared.Sign.{Sign}
use Rattle.frame.specs.declared.Reading.{Reading}
use Rattle.frame.specs.declared.Reading.TheVariants.{Unfinished, Faulty}
use Rattle.frame.specs.Line.{active_at, single, at, first_in}
use Rattle.frame.specs.Standing.{stands}
use Rattle.frame.specs.Faults.{most_bytes}
use Rattle.frame.specs.FirstLaws.{first_empty, first_here}
use Rattle.frame.specs.Reading.{decides, decided}
use Rattle.frame.proofs.ShownLaws.{shows_class}
use Rattle.frame_machine.specs.declared.Machine.{Machine}
use Rattle.frame_machine.specs.declared.Event.{Event}
use Rattle.frame_machine.specs.declared.Event.TheVariants.{Going, Byte, Closed, Faulty as AtFault}
use Rattle.frame_machine.specs.declared.Stepped.{Stepped}
use Rattle.frame_machine.specs.Steps.{fresh, step_of}
use Rattle.frame_machine.specs.Meaning.{meaning_of, sign_means}
use Rattle.frame_machine.specs.Holding.{so_far, holding}
use Rattle.frame_machine.specs.HoldingLaws.{count_of}
use Rattle.frame_machine.specs.Stated.{Keeping}
use Rattle.frame_machine.proofs.Keeping.{Closing, SaysKept, keeping_first, kept_by}
use Rattle.frame_machine.proofs.StepDoes.{some_fault}
use Rattle.frame_tests.specs.Shown.{sign_for}
use Rattle.frame_parts.specs.Laying.{laid_of, laid_enough}
use Rattle.frame_parts.specs.Parts.{parts_of}
use Rattle.frame_parts.specs.PartLaws.{parts_held}
use Rattle.frame_read.specs.Answering.{placed, frame_of, Meets}

-- Before the interval at i the lent bytes are as they were at entry, the machine holds what stands before i, the bytes so far
-- are kept, and no interval before i decides.
pub record Undecided (ws : List ℕ) (o i : ℕ) (entry lent : List ℕ) (held : Machine) (kept : List ℕ) : Type 0 where
  pub as_lent : lent ≡ entry
  pub keeping : Keeping most_bytes (single ws) o i held kept
  pub none_decides : first_in (decides most_bytes (single ws) o) (o + 1) (length ws) ≡ first_in (decides most_bytes (single ws) o) i (length ws)

module _ {ws : List ℕ} {o : ℕ} {entry : List ℕ} where
  pub undecided_first : {held : Machine} {kept : List ℕ} → held ≡ fresh → most_bytes ≤ length kept → Undecided ws o (o + 1) entry entry held kept
  undecided_first {held} {kept} e h = record { as_lent = refl; keeping = keeping_first most_bytes (single ws) o held kept e h; none_decides = refl }

  -- after the last interval the frame is unfinished
  pub unfinished : {i : ℕ} {lent : List ℕ} {held : Machine} {kept : List ℕ} → Undecided ws o i entry lent held kept → length ws ≤ i
      → Meets (decided most_bytes (single ws) o) entry lent (Unfinished (placed o))
  unfinished {i} v h =
      rw (v.as_lent, v.none_decides, first_empty (decides most_bytes (single ws) o) i (length ws) h) (record { tells_it = refl; lends_it = refl })

  -- one interval more, which the machine is told by its symbol
  module _ {i : ℕ} {lent : List ℕ} {held : Machine} {kept : List ℕ} (v : Undecided ws o i entry lent held kept) (h : i < length ws)
      {symbol : Symbol} {sign : Sign} {r : Stepped} (a : symbol ≡ class_of (active_at i) (get_or ws i 0)) (b : sign ≡ sign_for symbol)
      (made : r ≡ step_of most_bytes held sign) where
    says : (e : Event) → r.event ≡ e → SaysKept e held.count most_bytes (single ws) o i r.machine kept
    says e gave =
        kept_by most_bytes (single ws) o i held kept v.keeping sign r e
        (ap meaning_of (b ∙ ap sign_for a) ∙ sign_means (class_of (active_at i) (get_or ws i 0)) ∙ sym (shows_class ws i)) made gave

    first : (d : Bool) → decides most_bytes (single ws) o i ≡ d
        → first_in (decides most_bytes (single ws) o) (o + 1) (length ws) ≡ cond d (at i) (first_in (decides most_bytes (single ws) o) (i + 1) (length ws))
    first d e = v.none_decides ∙ first_here (decides most_bytes (single ws) o) i (length ws) d h e

    pub goes_on : r.event ≡ Going → Undecided ws o (i + 1) entry lent r.machine kept
    goes_on e = let s = says Going e in record { as_lent = v.as_lent; keeping = s.1; none_decides = first false s.0 }

    module _ {byte : ℕ} (e : r.event ≡ Byte byte) where
      pub byte_fits : held.count < most_bytes
      byte_fits = (says (Byte byte) e).1.0

      pub byte_kept : Undecided ws o (i + 1) entry lent r.machine (set kept held.count byte)
      byte_kept = let s = says (Byte byte) e in record { as_lent = v.as_lent; keeping = s.1.1; none_decides = first false s.0 }

    pub closed : {exit : List ℕ} {answer : Reading} → r.event ≡ Closed → most_bytes ≤ length entry → exit ≡ laid_of r.machine.count kept lent
        → answer ≡ frame_of (parts_of r.machine) o i → Meets (decided most_bytes (single ws) o) entry exit answer
    closed e enough x y =
        let s = says Closed e in
        let c : Closing most_bytes (single ws) o i r.machine kept = s.1.1 in
        let bytes : take (holding (stands (single ws) o i)).count kept ≡ so_far (stands (single ws) o i) = rw c.holds at c.first in
        let fits : r.machine.count ≤ length lent = omega (arith, enough, c.few, ap length v.as_lent) in
        rw (y, x ∙ laid_enough r.machine.count kept lent c.few fits, v.as_lent, first true s.0, s.1.0, c.no_bit, c.holds, bytes, parts_held (stands (single ws) o i), count_of (stands (single ws) o i))
        (record { tells_it = refl; lends_it = refl })

    pub at_fault : {f : Fault} → r.event ≡ AtFault f → Meets (decided most_bytes (single ws) o) entry lent (Faulty f (placed i))
    at_fault {f} e = let s = says (AtFault f) e in rw (v.as_lent, first true s.0, s.1, some_fault f) (record { tells_it = refl; lends_it = refl })
