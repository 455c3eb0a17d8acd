-- Laws.
-- What document 01 says of the intervals, "From volts to intervals", shown of the definition. Laws, with the two small
-- definitions that they speak of.
use Rattle.std.specs.Prelude.{ℕ, suc, ◌+◌, ◌≤◌, ◌≡◌, refl, Bool, true, false, List, [], ◌∷◌, Float, length}
use Rattle.std.proofs.Common.{ap, ◌∙◌, arith}
use Rattle.std.proofs.lemmas.List.{length-map}
use Rattle.volts.specs.Judging.{judged}
use Rattle.volts.specs.Levels.{judgements, level_after, levels_from, levels}
use Rattle.volts.specs.Intervals.{runs, widths, intervals_of}
use Rattle.volts.specs.declared.Gate.{Gate}
use Rattle.volts.specs.declared.Judged.{Judged}
use Rattle.volts.specs.Stated.{total, later, AtLeastOne}

-- there is a level for each sample
pub levels_length : (g : Gate) (s : List Float) → length (levels (judgements g s)) ≡ length s
levels_length g s = from false (judgements g s) ∙ length-map s (judged g)
  where
    from : (a : Bool) (js : List Judged) → length (levels_from a js) ≡ length js
    from a [] = refl
    from a (j ∷ js) = ap suc (from (level_after a j) js)

runs_total : (a : Bool) (r : ℕ) (bs : List Bool) → total (runs a r bs) ≡ r + length bs
runs_total a r [] = omega arith
runs_total true r (true ∷ bs) = omega (arith, runs_total true (suc r) bs)
runs_total true r (false ∷ bs) = omega (arith, runs_total false 1 bs)
runs_total false r (false ∷ bs) = omega (arith, runs_total false (suc r) bs)
runs_total false r (true ∷ bs) = omega (arith, runs_total true 1 bs)

widths_total : (bs : List Bool) → total (widths bs) ≡ length bs
widths_total [] = refl
widths_total (b ∷ bs) = omega (arith, runs_total false 0 (b ∷ bs))

-- "They sum to the number of samples."
pub sum_is_samples : (g : Gate) (s : List Float) → total (intervals_of g s) ≡ length s
sum_is_samples g s = widths_total (levels (judgements g s)) ∙ levels_length g s

runs_positive : (a : Bool) (r : ℕ) (bs : List Bool) → 1 ≤ r → AtLeastOne (runs a r bs)
runs_positive a r [] h = (h, tt)
runs_positive true r (true ∷ bs) h = runs_positive true (suc r) bs (omega arith)
runs_positive true r (false ∷ bs) h = (h, runs_positive false 1 bs (omega arith))
runs_positive false r (false ∷ bs) h = runs_positive false (suc r) bs (omega arith)
runs_positive false r (true ∷ bs) h = (h, runs_positive true 1 bs (omega arith))

runs_later : (a : Bool) (r : ℕ) (bs : List Bool) → AtLeastOne (later (runs a r bs))
runs_later a r [] = tt
runs_later true r (true ∷ bs) = runs_later true (suc r) bs
runs_later true r (false ∷ bs) = runs_positive false 1 bs (omega arith)
runs_later false r (false ∷ bs) = runs_later false (suc r) bs
runs_later false r (true ∷ bs) = runs_positive true 1 bs (omega arith)

-- Every run but the first has begun with a sample.
pub widths_later : (bs : List Bool) → AtLeastOne (later (widths bs))
widths_later [] = tt
widths_later (b ∷ bs) = runs_later false 0 (b ∷ bs)

-- "the first .. may be 0, every later one is at least 1"
pub later_at_least_one : (g : Gate) (s : List Float) → AtLeastOne (later (intervals_of g s))
later_at_least_one g s = widths_later (levels (judgements g s))

-- "No samples give no intervals."
pub no_samples : (g : Gate) → intervals_of g [] ≡ []
no_samples g = refl

runs_few : (a : Bool) (r : ℕ) (bs : List Bool) → length (runs a r bs) ≤ length bs + 1
runs_few a r [] = omega arith
runs_few true r (true ∷ bs) = omega (arith, runs_few true (suc r) bs)
runs_few true r (false ∷ bs) = omega (arith, runs_few false 1 bs)
runs_few false r (false ∷ bs) = omega (arith, runs_few false (suc r) bs)
runs_few false r (true ∷ bs) = omega (arith, runs_few true 1 bs)

-- the words that the call asks for, one more than the samples, are enough
pub words_enough : (g : Gate) (s : List Float) → length (intervals_of g s) ≤ length s + 1
words_enough g [] = omega arith
words_enough g (x ∷ xs) = omega (arith, runs_few false 0 (levels (judgements g (x ∷ xs))), levels_length g (x ∷ xs))
