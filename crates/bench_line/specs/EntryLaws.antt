-- Laws.
-- Laws of what the stations bring to a round: the bytes of one, its sender, and the places past the last holder.
use Rattle.std.specs.Prelude.{ℕ, zero, suc, ◌+◌, ◌*◌, ◌-◌, ◌≤◌, ◌<◌, min, ◌≡◌, refl, ◌⊎◌, Bool, true, false, cond, eqb, List, [], ◌∷◌, ◌++◌, map, length, take, get_or, replicate, None}
use Rattle.std.proofs.Common.{ap, ap₂, ◌∙◌, inl, inr, arith, length-append, length-take, length-take-le, take_at, eq-eqb, ne_eqb}
use Rattle.std.proofs.lemmas.List.{get_or_default, length-replicate}
use Rattle.laws.specs.Tests.{up_to}
use Rattle.checkbyte.specs.Register.{check_of, with_check}
use Rattle.frame.specs.Bits.{bits_of}
use Rattle.frame.proofs.ByteLaws.{bits_append, bits_length}
use Rattle.bench.specs.declared.Station.{Station}
use Rattle.bench.specs.declared.Fared.TheVariants.{Idle}
use Rattle.bench.specs.Stations.{most_stations, most_stored, stored, empty, blank}
use Rattle.bench.specs.Course.{Seat, out, on, most_bits}
use Rattle.bench.specs.Round.{absent, pulses_of, holder, entry_of, seat_of}
use Rattle.bench_line.specs.declared.sender.Sender.{Sender}
use Rattle.bench_line.specs.Lanes.{seat_at, seats_at, rest_at}
use Rattle.bench_line.specs.Entries.{Holders, count_of, frame_of, clipped_count, clipped_frame, lane_in, place_of}
use Rattle.bench_line.specs.Stated.{clipped}

-- ## The sender of a station

-- what is filled up after a message is not sent
sent_part : (x y : List ℕ) → take (8 * length x) (bits_of (x ++ y)) ≡ bits_of x
sent_part x y = ap (take (8 * length x)) (bits_append x y) ∙ take_at (bits_of x) (bits_of y) (8 * length x) (bits_length x)

-- Its bits: none where its message is empty, since then no check byte is sent either ..
pub count_none : (s : Station) → s.len ≡ 0 → 0 ≡ clipped_count s
unfolding count_of
count_none s e = rw (eq-eqb (min s.len most_stored) 0 (omega arith))

-- .. and otherwise eight for each byte, the check byte included.
pub count_some : (s : Station) → (s.len ≡ 0 → ⊥) → length s.bytes ≡ most_stored → (min s.len most_stored + 1) * 8 ≡ clipped_count s
unfolding count_of
count_some s e h =
    rw (ne_eqb (min s.len most_stored) 0 (λ z. e (omega arith)))
    (omega (arith, length-append (stored (clipped s)) (check_of (stored (clipped s)) ∷ []), length-take-le (min s.len most_stored) s.bytes (omega arith)))

checked_length : (m : List ℕ) → length (with_check m) ≡ suc (length m)
checked_length m = omega (arith, length-append m (check_of m ∷ []))

-- Its bits stand in its bytes.
pub start_ok : (s : Station) → clipped_count s ≤ 8 * length (clipped_frame s)
unfolding count_of frame_of
start_ok s = go (empty (clipped s))
  where
    go : (t : Bool) → cond t 0 (8 * length (with_check (stored (clipped s)))) ≤ 8 * length (frame_of (clipped s))
    go true = omega arith
    go false =
        omega (arith, length-append (with_check (stored (clipped s))) (replicate (most_stored - length (stored (clipped s))) 0))

-- They are at most 96, and its bytes are twelve.
pub start_fits : (s : Station) → (clipped_count s ≤ most_bits) × (length (clipped_frame s) ≡ suc most_stored)
unfolding count_of frame_of
start_fits s = (go (empty (clipped s)), omega (arith, few, checked_length m, length-append (with_check m) (replicate (most_stored - length m) 0), length-replicate {A = ℕ} (most_stored - length m) 0))
  where
    m : List ℕ
    m = stored (clipped s)

    few : length m ≤ most_stored
    few = omega (arith, length-take (min s.len most_stored) s.bytes)

    go : (t : Bool) → cond t 0 (8 * length (with_check m)) ≤ most_bits
    go true = omega arith
    go false = omega (arith, few, checked_length m)

-- What the list made from a row has at a place.
pub at_map : {B : Type 0} (f : Station → B) (row : List Station) (i : ℕ) (d : B) → i < length row → get_or (map f row) i d ≡ f (get_or row i blank)
at_map f [] i d h = absurd (omega arith)
at_map f (s ∷ row) zero d h = refl
at_map f (s ∷ row) (suc i) d h = at_map f row i d (omega arith)

-- As the bits begin it stands for the place that the station takes ..
pub start_at : (s : Station) (l : Sender) → l.lane ≡ lane_in s → l.frame ≡ clipped_frame s → seat_at false 0 l ≡ place_of s
unfolding seat_at rest_at count_of frame_of
start_at s l p q = rw (p, q) (go (clipped s))
  where
    go : (t : Station) → cond (eqb (count_of t) 0) (out Idle) (on (pulses_of t.clock false (take (count_of t) (bits_of (frame_of t))))) ≡ seat_of (entry_of t)
    go t = by (empty t)
      where
        by : (e : Bool)
            → cond (eqb (cond e 0 (8 * length (with_check (stored t)))) 0) (out Idle)
            (on (pulses_of t.clock false (take (cond e 0 (8 * length (with_check (stored t)))) (bits_of (frame_of t)))))
            ≡ seat_of (cond e absent (holder t.clock (stored t)))
        by true = refl
        by false =
            rw (
              ne_eqb (8 * length (with_check (stored t))) 0 (λ z. omega (arith, checked_length (stored t))),
              sent_part (with_check (stored t)) (replicate (most_stored - length (stored t)) 0),
            )

-- .. and the senders of a row for the places of the round.
pub start_seats : (begins : Station → Sender) → ((s : Station) → ((begins s).lane ≡ lane_in s) × ((begins s).frame ≡ clipped_frame s))
    → (row : List Station) → seats_at false 0 (map begins row) ≡ map seat_of (map entry_of (map clipped row))
start_seats begins so [] = refl
start_seats begins so (s ∷ row) =
    ap₂ (λ (x : Seat) (xs : List Seat). x ∷ xs) (start_at s (begins s) (so s).0 (so s).1) (start_seats begins so row)

-- ## The sender of a station, by the length of its message

module _ (s : Station) (whole : length s.bytes ≡ most_stored) (l : Sender) (c : l.lane.clock ≡ s.clock) (e : l.lane.lost ≡ None) where
  message : List ℕ
  message = take (min s.len most_stored) s.bytes

  few : length message ≡ min s.len most_stored
  unfolding message
  few = length-take-le (min s.len most_stored) s.bytes (omega arith)

  -- Where the message is empty its sender has nothing to send ..
  pub sender_empty : length (take (min s.len most_stored) s.bytes) ≡ 0 → l.lane.count ≡ 0 → seat_at false 0 l ≡ place_of s
  unfolding seat_at rest_at message
  sender_empty h n = rw (n, eq-eqb (min s.len most_stored) 0 (omega (arith, few)))

  -- .. and otherwise it sends eight bits for each byte, the check byte included.
  pub sender_holder : (length (take (min s.len most_stored) s.bytes) ≡ 0 → ⊥) → l.lane.count ≡ (length (take (min s.len most_stored) s.bytes) + 1) * 8
      → l.frame ≡ with_check (take (min s.len most_stored) s.bytes) ++ replicate (most_stored - length (take (min s.len most_stored) s.bytes)) 0 → seat_at false 0 l ≡ place_of s
  unfolding seat_at rest_at message
  sender_holder h n f =
      let k : l.lane.count ≡ 8 * length (with_check message) = omega (arith, length-append message (check_of message ∷ [])) in
      rw (
        e,
        f,
        c,
        k,
        ne_eqb (8 * length (with_check message)) 0 (λ z. omega (arith, length-append message (check_of message ∷ []))),
        ne_eqb (min s.len most_stored) 0 (λ z. h (omega (arith, few))),
        sent_part (with_check message) (replicate (most_stored - length message) 0),
      )

-- ## Past the last holder

module _ (row : List Station) where
  -- past the last place there is none ..
  pub holders_start : Holders row most_stations
  holders_start = record { few = omega arith; none = λ i lo hi. absurd (omega arith) }

  -- .. and none from one place less on, where an empty station stands there
  pub holders_less : (n : ℕ) → Holders row n → 0 < n → length row ≡ most_stations → (d : Station) → (get_or row (n - 1) d).len ≤ 0
      → Holders row (n - 1)
  holders_less n s h m d e = record { few = omega (arith, s.few); none = λ i lo hi. go i lo hi (up_to n i) }
    where
      go : (i : ℕ) → n - 1 ≤ i → i < most_stations → (n ≤ i) ⊎ (i < n) → (get_or row i blank).len ≡ 0
      go i lo hi (inl k) = s.none i k hi
      go i lo hi (inr k) =
          let z : n - 1 ≡ i = omega arith in
          let own : (get_or row (n - 1) d).len ≡ (get_or row i blank).len =
          ap (λ (x : Station). x.len) (get_or_default row (n - 1) d blank (omega arith) ∙ ap (λ (x : ℕ). get_or row x blank) z) in
          omega arith

-- The stations from place n on, which are empty, stand in idle places.
pub idle_rest : (row : List Station) (n : ℕ) → ((i : ℕ) → n ≤ i → i < length row → (get_or row i blank).len ≡ 0)
    → map place_of row ≡ map place_of (take n row) ++ replicate (length row - n) (out Idle)
idle_rest [] zero h = refl
idle_rest [] (suc n) h = let z : 0 - suc n ≡ 0 = omega arith in rw z
idle_rest (s ∷ row) zero h =
    let z : suc (length row) - 0 ≡ suc (length row - 0) = omega arith in
    rw z
    (ap₂ (λ (x : Seat) (r : List Seat). x ∷ r) (idle (eq-eqb (min s.len most_stored) 0 (omega (arith, h 0 (omega arith) (omega arith)))))
    (idle_rest row zero (λ i lo hi. h (suc i) (omega arith) (omega arith))))
  where
    idle : empty (clipped s) ≡ true → place_of s ≡ out Idle
    idle e = rw e
idle_rest (s ∷ row) (suc n) h =
    let z : suc (length row) - suc n ≡ length row - n = omega arith in
    rw z (ap (λ (r : List Seat). place_of s ∷ r) (idle_rest row n (λ i lo hi. h (suc i) (omega arith) (omega arith))))
