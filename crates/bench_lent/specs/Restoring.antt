-- Machinery.
-- A lent row becomes a held row, and a held row goes back into the lent row.
use Rattle.std.specs.Prelude.{ℕ, zero, suc, ◌+◌, ◌-◌, ◌≤◌, ◌<◌, min, ◌≡◌, refl, ◌⊎◌, List, [], ◌∷◌, ◌++◌, length, take, drop, get_or, set, replicate}
use Rattle.std.proofs.Common.{sym, ap, ◌∙◌, inl, inr, arith, length-append, length-take, length-take-le, take-suc, take_all, add-one}
use Rattle.std.proofs.lemmas.List.{length-replicate, length-drop, take-append-le, drop-replicate, set_at}
use Rattle.std.proofs.Math.Seq.{take-length, take-set-lt, set_out, append_snoc}
use Rattle.std.proofs.Math.ListN.{drop_of_length-le}
use mathlib.Core.List.{append-nil}
use Rattle.laws.specs.Tests.{up_to}
use Rattle.bench.specs.declared.Station.{Station}
use Rattle.bench.specs.Stations.{most_stations, blank}
use Rattle.bench_row.specs.declared.HeldRow.{HeldRow}
use Rattle.bench_row.specs.HeldRows.{held_of}

-- ## Gathering

blanks : (n m : ℕ) → n ≤ m → take n (replicate m blank) ≡ replicate n blank
blanks zero m k = refl
blanks (suc n) zero k = absurd (omega arith)
blanks (suc n) (suc m) k = ap (λ (r : List Station). blank ∷ r) (blanks n m (omega arith))

-- of blank stations that are enough, how many there are does not matter
enough : (l : List Station) (n m k : ℕ) → n ≤ length l + m → n ≤ length l + k → take n (l ++ replicate m blank) ≡ take n (l ++ replicate k blank)
enough [] n m k g h = blanks n m (omega arith) ∙ sym (blanks n k (omega arith))
enough (s ∷ l) zero m k g h = refl
enough (s ∷ l) (suc n) m k g h = ap (λ (r : List Station). s ∷ r) (enough l n m k (omega arith) (omega arith))

-- a row of at most 32, and what is blank past it
pub padded : (row : List Station) → length row ≤ most_stations → (held_of row).at ≡ row ++ replicate (most_stations - length row) blank
unfolding held_of
padded row h =
    let k : ℕ = most_stations - length row in
    enough row most_stations most_stations (most_stations - length row) (omega arith) (omega arith)
    ∙ take_all most_stations (row ++ replicate (most_stations - length row) blank) (omega (arith, length-append row (replicate k blank), length-replicate k blank))

-- The places of a row, as many as are kept, and blank ones past them are its held row.
pub gathers : (row at : List Station) (n : ℕ) → n ≡ min (length row) most_stations → at ≡ take n row ++ drop n (replicate most_stations blank)
    → (let b : HeldRow = record { at = at; count = length row } in b) ≡ held_of row
unfolding held_of
gathers row at n e p = ap (λ (l : List Station). record { at = l; count = length row }) (p ∙ go (up_to most_stations (length row)))
  where
    go : (most_stations ≤ length row) ⊎ (length row < most_stations) → take n row ++ drop n (replicate most_stations blank) ≡ take most_stations (row ++ replicate most_stations blank)
    go (inl k) =
        let f : n ≡ most_stations = omega arith in
        ap (λ (m : ℕ). take m row ++ drop m (replicate most_stations blank)) f
        ∙ append-nil (take most_stations row)
        ∙ sym (take-append-le most_stations row (replicate most_stations blank) k)
    go (inr k) =
        let f : n ≡ length row = omega arith in
        ap (λ (m : ℕ). take m row ++ drop m (replicate most_stations blank)) f
        ∙ ap (λ (l : List Station). l ++ drop (length row) (replicate most_stations blank)) (take-length row)
        ∙ ap (λ (l : List Station). row ++ l) (drop-replicate (length row) most_stations blank)
        ∙ sym (padded row (omega arith))

-- the places of a held row, of which i are filled
abbrev pub gathered : List Station → ℕ → List Station
gathered row i = (held_of (take i row)).at

-- none yet
pub gather_start : (row : List Station) → replicate most_stations blank ≡ gathered row 0
unfolding held_of
gather_start row = refl

-- one station more
pub gather_more : (row : List Station) (i : ℕ) (d : Station) → i < length row → set (gathered row i) i (get_or row i d) ≡ gathered row (i + 1)
unfolding held_of
gather_more row i d h = go (up_to most_stations i)
  where
    p : List Station
    p = take i row

    n : length p ≡ i
    n = length-take-le i row (omega arith)

    next : take (i + 1) row ≡ p ++ (get_or row i d ∷ [])
    next = ap (λ (k : ℕ). take k row) (add-one i) ∙ take-suc row i d h

    go : (most_stations ≤ i) ⊎ (i < most_stations) → set (take most_stations (p ++ replicate most_stations blank)) i (get_or row i d) ≡ take most_stations (take (i + 1) row ++ replicate most_stations blank)
    go (inl k) =
        set_out (take most_stations (p ++ replicate most_stations blank)) i (get_or row i d) (omega (arith, length-take most_stations (p ++ replicate most_stations blank)))
        ∙ take-append-le most_stations p (replicate most_stations blank) (omega (arith, n))
        ∙ sym (take-append-le most_stations (take (i + 1) row) (replicate most_stations blank) (omega (arith, length-take-le (i + 1) row (omega arith)))
        ∙ ap (take most_stations) next ∙ take-append-le most_stations p (get_or row i d ∷ []) (omega (arith, n)))
    go (inr k) =
        let z : most_stations ≡ suc 31 = refl in
        sym (take-set-lt most_stations (p ++ replicate most_stations blank) i (get_or row i d) k)
        ∙ ap (take most_stations) (set_at p blank (replicate 31 blank) (get_or row i d) i n ∙ sym (append_snoc p (get_or row i d) (replicate 31 blank)))
        ∙ enough (p ++ (get_or row i d ∷ [])) most_stations 31 most_stations (omega (arith, n, length-append p (get_or row i d ∷ []))) (omega arith)
        ∙ ap (λ (l : List Station). take most_stations (l ++ replicate most_stations blank)) (sym next)

-- all that a held row keeps
pub gather_all : (row : List Station) (i : ℕ) → i ≡ min (length row) most_stations → (let b : HeldRow = record { at = gathered row i; count = length row } in b) ≡ held_of row
unfolding held_of
gather_all row i e = ap (λ (l : List Station). record { at = l; count = length row }) (go (up_to most_stations (length row)))
  where
    go : (most_stations ≤ length row) ⊎ (length row < most_stations) → take most_stations (take i row ++ replicate most_stations blank) ≡ take most_stations (row ++ replicate most_stations blank)
    go (inl k) =
        let f : i ≡ most_stations = omega arith in
        ap (λ (n : ℕ). take most_stations (take n row ++ replicate most_stations blank)) f
        ∙ take-append-le most_stations (take most_stations row) (replicate most_stations blank) (omega (arith, length-take-le most_stations row k))
        ∙ take_all most_stations (take most_stations row) (omega (arith, length-take-le most_stations row k))
        ∙ sym (take-append-le most_stations row (replicate most_stations blank) k)
    go (inr k) =
        let f : i ≡ length row = omega arith in
        ap (λ (l : List Station). take most_stations (l ++ replicate most_stations blank)) (ap (λ (n : ℕ). take n row) f ∙ take-length row)

-- However many are filled, there are 32 places.
pub gather_length : (row : List Station) (i : ℕ) → length (gathered row i) ≡ most_stations
unfolding held_of
gather_length row i = omega (arith, length-take most_stations (take i row ++ replicate most_stations blank), length-append (take i row) (replicate most_stations blank), length-replicate most_stations blank)

-- ## Putting back

-- the stations of a held row that go back into a row: as many as it keeps
abbrev kept_of : HeldRow → List Station → List Station
kept_of b row = take (min (length row) most_stations) b.at

-- the row with the stations of a held row in its places, as many as that keeps
unfoldable pub put_back : HeldRow → List Station → List Station
put_back b row = kept_of b row ++ drop (length (kept_of b row)) row

-- A held row has 32 places, so that these are as many as the row has, or 32.
pub put_whole : (b : HeldRow) (row : List Station) → length b.at ≡ most_stations
    → take (min (length row) most_stations) b.at ++ drop (min (length row) most_stations) row ≡ put_back b row
unfolding put_back
put_whole b row n =
    ap (λ (k : ℕ). kept_of b row ++ drop k row) (sym (length-take-le (min (length row) most_stations) b.at (omega arith)))

-- A held row whose first places are a row of the same length is put back as that row.
pub put_first : (b : HeldRow) (row new : List Station) → length row ≤ most_stations → length new ≡ length row → take (length row) b.at ≡ new → put_back b row ≡ new
unfolding put_back
put_first b row new few same e =
    let n : min (length row) most_stations ≡ length row = omega arith in
    ap (λ (l : List Station). l ++ drop (length l) row) (ap (λ (m : ℕ). take m b.at) n ∙ e)
    ∙ ap (λ (l : List Station). new ++ l) (drop_of_length-le row {i = length new} (omega arith))
    ∙ append-nil new

-- No more are put back than there are ..
pub put_few : (n : ℕ) → min n most_stations ≤ n
put_few n = omega arith

-- .. and there are as many stations as there were.
pub put_length : (b : HeldRow) (row : List Station) → length (put_back b row) ≡ length row
unfolding put_back
put_length b row =
    omega (arith, length-append (kept_of b row) (drop (length (kept_of b row)) row), length-take (min (length row) most_stations) b.at, length-drop (length (kept_of b row)) row)
