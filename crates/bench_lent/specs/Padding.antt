-- Laws.
-- A row and blank stations past its end: the same rules, the same round, idle past the row.
use Prim.Native.Nat.{ℕ, zero, suc}
use Rattle.std.specs.Prelude.{◌≡◌, Bool, cond, not, length, replicate}
use Rattle.std.proofs.Math.Path.{refl, ap}
use Rattle.std.proofs.Common.{◌∙◌, arith}
use Rattle.std.proofs.Math.Bool.{true, false}
use mathlib.Core.List.{List, [], ◌∷◌, ◌++◌, map}
use Rattle.symbol.specs.SendingLaws.{nominal_good}
use Rattle.bench.specs.declared.Station.{Station}
use Rattle.bench.specs.declared.Fared.{Fared}
use Rattle.bench.specs.declared.Fared.TheVariants.{Idle}
use Rattle.bench.specs.Stations.{blank}
use Rattle.bench.specs.Course.{Pulse, Seat, out, asks, asked, widths_of, lasts, on_line, heard, Course, over, bit_then, nobody_asks, most_bits, play, fared_at}
use Rattle.bench.specs.Round.{Entry, absent, entry_of, sof_asks, sofs_asked, seat_of, round_among, round_of, after_fare, after_fares}
use Rattle.bench.specs.Calls.{all_sound, all_empty}

-- places that take no part
abbrev idle : ℕ → List Seat
idle n = replicate n (out Idle)

-- One change made to two lists, one after the other.
pub map_append : {A B : Type 0} (f : A → B) (x y : List A) → map f (x ++ y) ≡ map f x ++ map f y
map_append f [] y = refl
map_append {A} {B} f (a ∷ x) y = ap (λ (r : List B). f a ∷ r) (map_append f x y)

-- The same change made to equal elements.
pub map_replicate : {A B : Type 0} (f : A → B) (a : A) (n : ℕ) → map f (replicate n a) ≡ replicate n (f a)
map_replicate f a zero = refl
map_replicate {A} {B} f a (suc n) = ap (λ (r : List B). f a ∷ r) (map_replicate f a n)

-- ## The rules

module _ (n : ℕ) where
  -- Blank stations past the end are sound ..
  pub sound_pad : (row : List Station) → all_sound (row ++ replicate n blank) ≡ all_sound row
  unfolding all_sound
  sound_pad [] = blanks n
    where
      blanks : (m : ℕ) → all_sound (replicate m blank) ≡ true
      blanks zero = refl
      blanks (suc m) = rw (nominal_good, blanks m)
  sound_pad (s ∷ row) = rw (sound_pad row)

  -- .. and empty.
  pub empty_pad : (row : List Station) → all_empty (row ++ replicate n blank) ≡ all_empty row
  unfolding all_empty
  empty_pad [] = blanks n
    where
      blanks : (m : ℕ) → all_empty (replicate m blank) ≡ true
      blanks zero = refl
      blanks (suc m) = blanks m
  empty_pad (s ∷ row) = rw (empty_pad row)

  -- ## The round

  asked_pad : (seats : List Seat) → asked (seats ++ idle n) ≡ asked seats
  unfolding asked
  asked_pad [] = none n
    where
      none : (m : ℕ) → asked (idle m) ≡ []
      none zero = refl
      none (suc m) = none m
  asked_pad (s ∷ seats) = ap (λ (r : List Pulse). asks s ++ r) (asked_pad seats)

  heard_pad : (k : ℕ) (b : Bool) (seats : List Seat) → map (heard k b) (seats ++ idle n) ≡ map (heard k b) seats ++ idle n
  heard_pad k b seats = map_append (heard k b) seats (idle n) ∙ ap (λ (r : List Seat). map (heard k b) seats ++ r) (map_replicate (heard k b) (out Idle) n)

  more : Course → Course
  more c = record { widths = c.widths; seats = c.seats ++ idle n }

  play_pad : (f : ℕ) (active : Bool) (k : ℕ) (seats : List Seat) → play f active k (seats ++ idle n) ≡ more (play f active k seats)
  unfolding play more
  play_pad zero active k seats = refl
  play_pad (suc f) active k seats =
      rw (asked_pad seats, heard_pad k (on_line active w) seats, play_pad f (not active) (suc k) (map (heard k (on_line active w)) seats)) (go (nobody_asks (asked seats)))
    where
      w : ℕ
      w = lasts active (widths_of (asked seats))

      go : (t : Bool) → cond t (over (seats ++ idle n)) (bit_then w (more (play f (not active) (suc k) (map (heard k (on_line active w)) seats))))
          ≡ more (cond t (over seats) (bit_then w (play f (not active) (suc k) (map (heard k (on_line active w)) seats))))
      go true = refl
      go false = refl

  entries_pad : (row : List Station) → map entry_of (row ++ replicate n blank) ≡ map entry_of row ++ replicate n absent
  entries_pad row = map_append entry_of row (replicate n blank) ∙ ap (λ (r : List Entry). map entry_of row ++ r) (map_replicate entry_of blank n)

  sofs_pad : (entries : List Entry) → sofs_asked (entries ++ replicate n absent) ≡ sofs_asked entries
  unfolding sofs_asked
  sofs_pad [] = none n
    where
      none : (m : ℕ) → sofs_asked (replicate m absent) ≡ []
      none zero = refl
      none (suc m) = none m
  sofs_pad (e ∷ entries) = ap (λ (r : List ℕ). sof_asks e ++ r) (sofs_pad entries)

  seats_pad : (entries : List Entry) → map seat_of (entries ++ replicate n absent) ≡ map seat_of entries ++ idle n
  seats_pad entries = map_append seat_of entries (replicate n absent) ∙ ap (λ (r : List Seat). map seat_of entries ++ r) (map_replicate seat_of absent n)

  fares_pad : (seats : List Seat) → map fared_at (seats ++ idle n) ≡ map fared_at seats ++ replicate n Idle
  fares_pad seats = map_append fared_at seats (idle n) ∙ ap (λ (r : List Fared). map fared_at seats ++ r) (map_replicate fared_at (out Idle) n)

  -- The same words and line time, and idle past the row.
  pub round_pad : (row : List Station) → round_of (row ++ replicate n blank) ≡ record { words = (round_of row).words; fares = (round_of row).fares ++ replicate n Idle; line_time = (round_of row).line_time }
  unfolding round_of round_among more
  round_pad row =
      rw (entries_pad row, sofs_pad (map entry_of row), seats_pad (map entry_of row), play_pad most_bits false 1 (map seat_of (map entry_of row)), fares_pad (play most_bits false 1 (map seat_of (map entry_of row))).seats)

  -- ## The stations afterwards

  idle_stay : (m : ℕ) → after_fares (replicate m Idle) (replicate m blank) ≡ replicate m blank
  unfolding after_fares
  idle_stay zero = refl
  idle_stay (suc m) = ap (λ (r : List Station). blank ∷ r) (idle_stay m)

  -- The blank stations stay as they are.
  pub after_pad : (fares : List Fared) (row : List Station) → length fares ≡ length row → after_fares (fares ++ replicate n Idle) (row ++ replicate n blank) ≡ after_fares fares row ++ replicate n blank
  unfolding after_fares
  after_pad [] [] e = idle_stay n
  after_pad [] (s ∷ row) e = absurd (omega arith)
  after_pad (f ∷ fares) [] e = absurd (omega arith)
  after_pad (f ∷ fares) (s ∷ row) e = ap (λ (r : List Station). after_fare f s ∷ r) (after_pad fares row (omega arith))
