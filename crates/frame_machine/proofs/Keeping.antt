-- Laws.
-- Following a frame with its bytes kept in a row of their own, each at the place that the machine counts, until the frame
-- closes.
use Rattle.std.specs.Prelude.{ℕ, suc, ◌+◌, ◌≤◌, ◌<◌, ◌≡◌, true, false, List, [], ◌∷◌, ◌++◌, length, set, take}
use Rattle.std.proofs.Common.{ap, ◌∙◌, arith, length-append, length-set, take-suc-set}
use Rattle.frame.specs.declared.Sign.{Sign}
use Rattle.frame.specs.Line.{Line}
use Rattle.frame.specs.Standing.{Standing, counted, stands}
use Rattle.frame.proofs.StandingLaws.{stands_sof}
use Rattle.frame.specs.Reading.{fault_at, decides}
use Rattle.frame.specs.ReadPromise.{fault_number}
use Rattle.frame.proofs.BitLaws.{bytes_none}
use Rattle.frame_machine.specs.declared.Machine.{Machine}
use Rattle.frame_machine.specs.declared.Event.{Event}
use Rattle.frame_machine.specs.declared.Event.TheVariants.{Going, Byte, Closed, Faulty}
use Rattle.frame_machine.specs.declared.Stepped.{Stepped}
use Rattle.frame_machine.specs.Steps.{fresh, step_of}
use Rattle.frame_machine.specs.Meaning.{meaning_of}
use Rattle.frame_machine.specs.Holding.{so_far, holding}
use Rattle.frame_machine.specs.HoldingLaws.{count_of}
use Rattle.frame_machine.proofs.Following.{at_first, Says, count_is, says_by}
use Rattle.frame_machine.specs.Stated.{Kept, Keeping}

-- the interval at k closes the frame and completes no bit: the machine holds the parts, and their bytes stand first in the
-- kept ones
pub record Closing (limit : ℕ) (l : Line) (o k : ℕ) (m : Machine) (kept : List ℕ) : Type 0 where
  pub few : m.count ≤ limit
  pub no_bit : counted (stands l o k) (l.shows k) ≡ stands l o k
  pub holds : m ≡ holding (stands l o k)
  pub first : take m.count kept ≡ so_far (stands l o k)

-- At the SOF's place there is nothing yet, whatever the kept bytes hold.
pub keeping_first : (limit : ℕ) (l : Line) (o : ℕ) (m : Machine) (kept : List ℕ) → m ≡ fresh → limit ≤ length kept → Keeping limit l o (o + 1) m kept
keeping_first limit l o m kept e h =
    record { follows = at_first limit l o m e; keeps = rw (stands_sof l o) (record { space = h; first = rw bytes_none }) }

keeps_same : (limit : ℕ) (st st' : Standing) (kept : List ℕ) → so_far st' ≡ so_far st → Kept limit st kept → Kept limit st' kept
keeps_same limit st st' kept e h = record { space = h.space; first = rw e h.first }

keeps_more : (limit : ℕ) (st st' : Standing) (kept : List ℕ) (b : ℕ) → length (so_far st) < limit → so_far st' ≡ so_far st ++ (b ∷ [])
    → Kept limit st kept → Kept limit st' (set kept (length (so_far st)) b)
keeps_more limit st st' kept b few e h =
    let fits : length (so_far st) < length kept = omega (arith, few, h.space) in
    let longer : length (so_far st ++ (b ∷ [])) ≡ suc (length (so_far st)) = simp length-append (omega arith) in
    record {
      space = rw (length-set kept (length (so_far st)) b) h.space;
      first = rw (e, longer, take-suc-set kept (length (so_far st)) b fits) (rw h.first);
    }

-- What an event says, with n bytes before k: the byte that it tells of, if any, is kept at place n.
abbrev pub SaysKept : Event → (n limit : ℕ) → Line → (o k : ℕ) → Machine → List ℕ → Type 0
SaysKept Going n limit l o k m kept = (decides limit l o k ≡ false) × Keeping limit l o (k + 1) m kept
SaysKept (Byte b) n limit l o k m kept = (decides limit l o k ≡ false) × ((n < limit) × Keeping limit l o (k + 1) m (set kept n b))
SaysKept Closed n limit l o k m kept = (decides limit l o k ≡ true) × ((fault_at limit l o k ≡ 0) × Closing limit l o k m kept)
SaysKept (Faulty f) n limit l o k m kept = (decides limit l o k ≡ true) × (fault_at limit l o k ≡ fault_number f)

module _ (limit : ℕ) (l : Line) (o k : ℕ) (m : Machine) (kept : List ℕ) (v : Keeping limit l o k m kept) where
  count : m.count ≡ length (so_far (stands l o k))
  count = count_is limit l o k m v.follows

  closing : (m' : Machine) → m' ≡ holding (stands l o k) → counted (stands l o k) (l.shows k) ≡ stands l o k → Closing limit l o k m' kept
  closing m' e a =
      let n : m'.count ≡ length (so_far (stands l o k)) = ap (λ (x : Machine). x.count) e ∙ count_of (stands l o k) in
      record { few = rw n v.follows.few; no_bit = a; holds = e; first = rw n v.keeps.first }

  keeps : (e : Event) (m' : Machine) → Says e limit l o k m' → SaysKept e m.count limit l o k m' kept
  keeps Going m' s = (s.0, record { follows = s.1.0; keeps = keeps_same limit (stands l o k) (stands l o (k + 1)) kept s.1.1 v.keeps })
  keeps (Byte b) m' s =
      rw count (s.0, (s.1.1.0, record { follows = s.1.0; keeps = keeps_more limit (stands l o k) (stands l o (k + 1)) kept b s.1.1.0 s.1.1.1 v.keeps }))
  keeps Closed m' s = (s.0, (s.1.0, closing m' s.1.1.0 s.1.1.1))
  keeps (Faulty f) m' s = s

  -- One interval more: the machine is told what place k shows, and answers with the event e.
  pub kept_by : (s : Sign) (r : Stepped) (e : Event) → meaning_of s ≡ l.shows k → r ≡ step_of limit m s → r.event ≡ e
      → SaysKept e m.count limit l o k r.machine kept
  kept_by s r e same made gave = keeps e r.machine (says_by limit l o k m v.follows s r e same made gave)
