-- What the four events of the frame machine do, by what the code has at hand.
use Prim.Native.Nat.{ℕ}
use mathlib.Core.Path.{◌≡◌, ap}
use mathlib.Core.Bool.{Bool}
use mathlib.Core.List.{List}
use Rattle.symbol.specs.declared.Symbol.{Symbol}
use Rattle.symbol.specs.Classes.{class_of, end_of}
use Rattle.frame.specs.declared.Sign.{Sign}
use Rattle.frame.specs.Line.{active_at}
use Rattle.frame.specs.Faults.{most_bytes}
use Rattle.frame_machine.specs.declared.Machine.{Machine}
use Rattle.frame_machine.specs.declared.Event.{Event}
use Rattle.frame_machine.specs.declared.Stepped.{Stepped}
use Rattle.frame_machine.specs.Steps.{step_of}
use Rattle.frame_tests.specs.Shown.{sign_for}
use Rattle.live_held.specs.declared.Live.{Live}
use Rattle.live_held.specs.Reader.{held_by}
use Rattle.live_taken.specs.Taken.{fed_by, laid_by, step_at, ends_at}

-- what the code has of a reader's interval before it looks at the event
pub record Steps (v : Live) (w : ℕ) (end : Bool) (t : Stepped) : Type 0 where
  pub steps : t ≡ step_at v w
  pub ends : end ≡ ends_at v w

pub steps_by : (v : Live) (w : ℕ) (active end : Bool) (m : Machine) (s : Symbol) (r : Sign) (t : Stepped) → active ≡ active_at v.places.next
    → end ≡ end_of active w → m ≡ held_by v.inside → s ≡ class_of active w → r ≡ sign_for s → t ≡ step_of most_bytes m r → Steps v w end t
steps_by v w active end m s r t a n h e f g = record { steps = rw (g, h, f, e, a); ends = rw (n, a) }

-- the event decides what is answered, and what becomes of the lent bytes
pub fed_by_law : (v : Live) (w : ℕ) (end : Bool) (t : Stepped) → Steps v w end t → (k : Event) → t.event ≡ k
    → fed_by k v t.machine end ≡ fed_by (step_at v w).event v (step_at v w).machine (ends_at v w)
fed_by_law v w end t h k e = rw (← e, h.ends) (ap (λ (x : Stepped). fed_by x.event v x.machine (ends_at v w)) h.steps)

pub laid_by_law : (v : Live) (w : ℕ) (end : Bool) (t : Stepped) → Steps v w end t → (k : Event) → t.event ≡ k
    → (lent : List ℕ) → laid_by k v.inside lent ≡ laid_by (step_at v w).event v.inside lent
laid_by_law v w end t h k e lent = rw (← e) (ap (λ (x : Stepped). laid_by x.event v.inside lent) h.steps)
