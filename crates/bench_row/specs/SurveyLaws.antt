-- Laws.
-- What is asked of a whole row, by each of its stations.
use Rattle.std.specs.Prelude.{ℕ, suc, ◌-◌, ◌≤◌, ◌<◌, max, ◌≡◌, refl, Bool, true, false, cond, ◌&&◌, List, [], ◌∷◌, ◌++◌, map, length, drop, get_or}
use Rattle.std.specs.List.{list_all, fold}
use Rattle.std.proofs.Common.{sym, ap, ◌∙◌, arith, drop-cons}
use Rattle.std.proofs.Math.ListN.{drop_of_length-le}
use Rattle.bench.specs.declared.Station.{Station}
use Rattle.bench.specs.Stations.{most_stations, stored, empty, sound}
use Rattle.bench.specs.Course.{longest}
use Rattle.bench.specs.Round.{absent, holder, entry_of, sof_asks, sofs_asked}
use Rattle.bench.specs.Calls.{all_sound, all_empty}
use Rattle.bench_row.specs.declared.survey.Survey.{Survey}
use Rattle.bench_row.specs.Surveys.{sof_of, longer, survey_of}

sounds : (row : List Station) → list_all sound row ≡ all_sound row
unfolding all_sound
sounds [] = refl
sounds (s ∷ row) = ap (λ (t : Bool). sound s && t) (sounds row)

empties : (row : List Station) → list_all empty row ≡ all_empty row
unfolding all_empty
empties [] = refl
empties (s ∷ row) = ap (λ (t : Bool). empty s && t) (empties row)

longest_of : (s : Station) (row : List Station) → longest (sofs_asked (map entry_of (s ∷ row))) ≡ max (sof_of s) (longest (sofs_asked (map entry_of row)))
unfolding sofs_asked longest
longest_of s row = go (empty s)
  where
    go : (t : Bool) → longest (sof_asks (cond t absent (holder s.clock (stored s))) ++ sofs_asked (map entry_of row)) ≡ max (cond t 0 s.clock.sof.0) (longest (sofs_asked (map entry_of row)))
    go true = omega arith
    go false = refl

longer_than : (n : ℕ) (row : List Station) → fold longer n row ≡ max n (longest (sofs_asked (map entry_of row)))
unfolding sofs_asked longest
longer_than n [] = omega arith
longer_than n (s ∷ row) = omega (arith, longer_than (longer n s) row, longest_of s row)

-- The tests of each station come to what is asked of the row.
pub surveyed : (row : List Station) (a b : Bool) (n : ℕ) → a ≡ list_all sound row → b ≡ list_all empty row → n ≡ fold longer 0 row
    → (let v : Survey = record { sound = a; empty = b; sof = n } in v) ≡ survey_of row
surveyed row a b n p q r =
    let l : n ≡ longest (sofs_asked (map entry_of row)) = omega (arith, r, longer_than 0 row) in
    rw (p, q, l, sounds row, empties row)

-- ## Station by station, from the end

-- one station, taken in with what is known of those after it
abbrev pub survey_by : Survey → Station → Survey
survey_by v s = record { sound = sound s && v.sound; empty = empty s && v.empty; sof = max (sof_of s) v.sof }

-- One station more.
pub survey_one : (s : Station) (row : List Station) → survey_by (survey_of row) s ≡ survey_of (s ∷ row)
unfolding all_sound all_empty
survey_one s row =
    ap (λ (n : ℕ). let v : Survey = record { sound = sound s && all_sound row; empty = empty s && all_empty row; sof = n } in v) (sym (longest_of s row))

module _ (row : List Station) where
  -- after the last
  pub survey_start : length row ≡ most_stations → record { sound = true; empty = true; sof = 0 } ≡ survey_of (drop most_stations row)
  unfolding all_sound all_empty sofs_asked longest
  survey_start n = ap survey_of (sym (drop_of_length-le row {i = most_stations} (omega arith)))

  -- one station more
  pub survey_more : (i : ℕ) (d : Station) → 0 < i → i ≤ length row → (v u : Survey) → v ≡ survey_of (drop i row) → u ≡ survey_by v (get_or row (i - 1) d) → u ≡ survey_of (drop (i - 1) row)
  survey_more i d lo hi v u e q =
      let p : i ≡ suc (i - 1) = omega arith in
      q ∙ ap (λ (x : Survey). survey_by x (get_or row (i - 1) d)) (e ∙ ap (λ (n : ℕ). survey_of (drop n row)) p)
      ∙ survey_one (get_or row (i - 1) d) (drop (suc (i - 1)) row)
      ∙ ap survey_of (sym (drop-cons row (i - 1) d (omega arith)))

  -- all of them
  pub survey_end : (i : ℕ) → i ≤ 0 → (v : Survey) → v ≡ survey_of (drop i row) → v ≡ survey_of row
  survey_end i h v e = let p : i ≡ 0 = omega arith in e ∙ ap (λ (n : ℕ). survey_of (drop n row)) p
