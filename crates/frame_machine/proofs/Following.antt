-- Laws.
-- Following a frame interval by interval: what is known before each, and what the machine's event at one says of it. Nothing
-- is said here of where the bytes are kept.
use Rattle.std.specs.Prelude.{ℕ, ◌+◌, ◌≤◌, ◌<◌, ◌≡◌, refl, Bool, true, false, [], ◌∷◌, ◌++◌, length}
use Rattle.std.proofs.Common.{sym, ap, subst, ◌∙◌, arith, length-append}
use Rattle.frame.specs.declared.Fault.{Fault}
use Rattle.frame.specs.declared.Sign.{Sign}
use Rattle.frame.specs.Line.{Line, end_at}
use Rattle.frame.specs.Standing.{counted, moved, stands}
use Rattle.frame.proofs.StandingLaws.{stands_sof, stands_next}
use Rattle.frame.specs.Reading.{fault_at, decides}
use Rattle.frame.specs.ReadPromise.{fault_number}
use Rattle.frame.proofs.BitLaws.{bytes_none}
use Rattle.frame.proofs.Decided.{fault_decides, end_decides}
use Rattle.frame_machine.specs.declared.Machine.{Machine}
use Rattle.frame_machine.specs.declared.Event.{Event}
use Rattle.frame_machine.specs.declared.Event.TheVariants.{Going, Byte, Closed, Faulty}
use Rattle.frame_machine.specs.declared.Stepped.{Stepped}
use Rattle.frame_machine.specs.Steps.{fresh, step_of}
use Rattle.frame_machine.specs.Meaning.{meaning_of}
use Rattle.frame_machine.specs.Holding.{so_far, holding}
use Rattle.frame_machine.specs.HoldingLaws.{count_of, began_within}
use Rattle.frame_machine.specs.Does.{Does, faults, closes, goes, stores}
use Rattle.frame_machine.proofs.StepDoes.{positive, fresh_holds, step_does}
use Rattle.frame_machine.specs.Holding.{Before}

-- At the SOF's place there is nothing yet.
pub at_first : (limit : ℕ) (l : Line) (o : ℕ) (m : Machine) → m ≡ fresh → Before limit l o (o + 1) m
at_first limit l o m e =
    record { opened = omega arith; few = rw (stands_sof l o, bytes_none) (omega arith); holds = e ∙ fresh_holds ∙ ap holding (sym (stands_sof l o)) }

-- ## What an event says of the interval at k

-- In the frame that opens at o: it decides nothing, and the machine m then holds what stands before the next interval, the
-- bytes as they were or with one more; or it closes the frame, completes no bit, and m holds the parts; or it is at the fault that the paper
-- gives it.
abbrev pub Says : Event → (limit : ℕ) → Line → (o k : ℕ) → Machine → Type 0
Says Going limit l o k m =
    (decides limit l o k ≡ false) × (Before limit l o (k + 1) m × (so_far (stands l o (k + 1)) ≡ so_far (stands l o k)))
Says (Byte b) limit l o k m =
    (decides limit l o k ≡ false)
    × (Before limit l o (k + 1) m × ((length (so_far (stands l o k)) < limit) × (so_far (stands l o (k + 1)) ≡ so_far (stands l o k) ++ (b ∷ []))))
Says Closed limit l o k m =
    (decides limit l o k ≡ true)
    × ((fault_at limit l o k ≡ 0) × ((m ≡ holding (stands l o k)) × (counted (stands l o k) (l.shows k) ≡ stands l o k)))
Says (Faulty f) limit l o k m = (decides limit l o k ≡ true) × (fault_at limit l o k ≡ fault_number f)

decides_fault : (limit : ℕ) (l : Line) (o k : ℕ) (f : Fault) → fault_at limit l o k ≡ fault_number f → decides limit l o k ≡ true
decides_fault limit l o k f e = fault_decides limit l o k (rw e (positive f))

decides_end : (limit : ℕ) (l : Line) (o k : ℕ) (b : Bool) → fault_at limit l o k ≡ 0 → end_at l k ≡ b → decides limit l o k ≡ b
decides_end limit l o k b e g = end_decides limit l o k e ∙ g

module _ (limit : ℕ) (l : Line) (o k : ℕ) (m : Machine) (v : Before limit l o k m) where
  next_stands : stands l o (k + 1) ≡ moved (stands l o k) (l.shows k)
  next_stands = stands_next l o k v.opened

  on_to : (m' : Machine) → m' ≡ holding (moved (stands l o k) (l.shows k)) → length (so_far (moved (stands l o k) (l.shows k))) ≤ limit
      → Before limit l o (k + 1) m'
  on_to m' e h = record { opened = omega (arith, v.opened); few = rw next_stands h; holds = e ∙ ap holding (sym next_stands) }

  -- it counts the bytes that stand before the interval
  pub count_is : m.count ≡ length (so_far (stands l o k))
  count_is = ap (λ (x : Machine). x.count) v.holds ∙ count_of (stands l o k)

  -- what the machine counts is no more than a frame may have
  pub held_few : m.count ≤ limit
  held_few = omega (arith, count_is, v.few)

  -- no part begins after the bytes counted
  pub held_began : m.began ≤ m.count
  held_began = rw v.holds (began_within (stands l o k))

  says : (r : Stepped) → Does limit (stands l o k) (l.shows k) r → Says r.event limit l o k r.machine
  says r (faults f e g) = rw g (decides_fault limit l o k f e, e)
  says r (closes e g h a) = rw h (decides_end limit l o k true e g, (e, (refl, a)))
  says r (goes e g h a) = rw h (decides_end limit l o k false e g, (on_to _ refl (rw a v.few), rw next_stands a))
  says r (stores b e g h few a) =
      let longer : length (so_far (stands l o k) ++ (b ∷ [])) ≡ length (so_far (stands l o k)) + 1 = length-append (so_far (stands l o k)) (b ∷ []) in
      rw h (decides_end limit l o k false e g, (on_to _ refl (rw a (omega (arith, longer, few))), (few, rw next_stands a)))

  -- One interval more: the machine is told what place k shows, and answers with the event e.
  pub says_by : (s : Sign) (r : Stepped) (e : Event) → meaning_of s ≡ l.shows k → r ≡ step_of limit m s → r.event ≡ e → Says e limit l o k r.machine
  says_by s r e same made gave =
      let does : Does limit (stands l o k) (meaning_of s) (step_of limit (holding (stands l o k)) s) = step_does limit (stands l o k) s v.few in
      let whole : step_of limit (holding (stands l o k)) s ≡ r = ap (λ (x : Machine). step_of limit x s) (sym v.holds) ∙ sym made in
      subst (λ (x : Event). Says x limit l o k r.machine) gave (says r (rw (same, whole) at does))
