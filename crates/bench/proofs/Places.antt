-- Laws.
-- The places of a row: what waits at each, and that a message of the row waits at one of them.
use Rattle.std.specs.Prelude.{ℕ, zero, suc, ◌≡◌, refl, ◌≢◌, Bool, true, false, ◌&&◌, ◌||◌, List, [], ◌∷◌, length, get_or}
use Rattle.std.proofs.Common.{sym, ◌∙◌}
use Rattle.std.proofs.Math.Bool.{or-true}
use Rattle.std.proofs.lemmas.List.{length-map}
use Rattle.std.proofs.Math.ListN.{get_or-map}
use Rattle.laws.specs.Tests.{never}
use Rattle.bench.specs.declared.Station.{Station}
use Rattle.bench.specs.Stations.{Bits, bits_sent, stored, empty, waiting_at, blank}
use Rattle.bench.specs.Order.{same_bits}
use Rattle.bench.proofs.OrderLaws.{same_true, same_refl}
use Rattle.bench.specs.Calls.{all_empty}
use Rattle.bench.specs.Histories.{waiting, among}
use Rattle.bench.proofs.RowLaws.{sent_some}
use Rattle.bench.specs.RoundStated.{station_at}

-- What waits at a place of the row is what waits at its station.
pub waiting_at_law : (row : List Station) (i : ℕ) → get_or (waiting row) i [] ≡ waiting_at (station_at row i)
unfolding waiting
waiting_at_law row i = get_or-map waiting_at row i blank

-- There are as many places as stations.
pub waiting_length : (row : List Station) → length (waiting row) ≡ length row
unfolding waiting
waiting_length row = length-map row waiting_at

-- What waits at a holder are its message's bits.
pub holder_waits : (s : Station) → empty s ≡ false → waiting_at s ≡ bits_sent (stored s)
holder_waits s e = rw e

-- A holder has bits to send.
pub holder_some : (s : Station) → empty s ≡ false → waiting_at s ≢ []
holder_some s e q = sent_some (stored s) (sym (holder_waits s e) ∙ q)

-- Nothing waits at an empty station.
pub empty_none : (s : Station) → empty s ≡ true → waiting_at s ≡ []
empty_none s e = rw e

-- a station with bits is a holder
pub some_holder : (s : Station) → waiting_at s ≢ [] → empty s ≡ false
some_holder s n = go (empty s) refl
  where
    go : (t : Bool) → empty s ≡ t → empty s ≡ false
    go true e = absurd (n (empty_none s e))
    go false e = e

-- What stands at a place of a list of messages, and has bits, is among them.
pub at_among : (xs : List Bits) (i : ℕ) → get_or xs i [] ≢ [] → among (get_or xs i []) xs ≡ true
unfolding among
at_among [] i n = absurd (n refl)
at_among (x ∷ xs) zero n = rw (same_refl x)
at_among (x ∷ xs) (suc i) n = rw (at_among xs i n, or-true)

-- And one that is among them stands at a place.
pub among_at : (m : Bits) (xs : List Bits) → among m xs ≡ true → (i : ℕ) × (get_or xs i [] ≡ m)
unfolding among
among_at m [] h = never h refl
among_at m (x ∷ xs) h = go (same_bits m x) refl h (among_at m xs)
  where
    go : (t : Bool) → same_bits m x ≡ t → (t || among m xs) ≡ true → (among m xs ≡ true → (i : ℕ) × (get_or xs i [] ≡ m))
        → (i : ℕ) × (get_or (x ∷ xs) i [] ≡ m)
    go true e h ih = (0, sym (same_true m x e))
    go false e h ih = let r = ih h in (suc r.0, r.1)

-- Where not all are empty, one is a holder.
pub somebody : (row : List Station) → all_empty row ≡ false → (i : ℕ) × (empty (station_at row i) ≡ false)
unfolding all_empty
somebody [] h = never refl h
somebody (s ∷ row) h = go (empty s) refl h (somebody row)
  where
    go : (t : Bool) → empty s ≡ t → (t && all_empty row) ≡ false → (all_empty row ≡ false → (i : ℕ) × (empty (station_at row i) ≡ false))
        → (i : ℕ) × (empty (station_at (s ∷ row) i) ≡ false)
    go true e h ih = let r = ih h in (suc r.0, r.1)
    go false e h ih = (0, e)
