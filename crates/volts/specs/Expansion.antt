-- Laws.
-- The intervals say what the judged samples say, sample by sample: laid out again, each for as long as it lasts and the levels
-- alternating from passive, they are the levels of the trace, and no other intervals are. Laws, with the definition of laying
-- out.
use Rattle.std.specs.Prelude.{ℕ, zero, suc, ◌+◌, ◌≡◌, refl, Bool, true, false, not, List, [], ◌∷◌, ◌++◌, Float, length, replicate}
use Rattle.std.proofs.Common.{sym, ap, ◌∙◌, arith, add-zero, zero-add}
use Rattle.volts.specs.Levels.{judgements, levels}
use Rattle.volts.specs.Intervals.{runs, widths, intervals_of}
use Rattle.volts.specs.IntervalLaws.{levels_length}
use Rattle.volts.specs.Stated.{later, AtLeastOne, laid_out}
use Rattle.volts.specs.declared.Gate.{Gate}

replicate_push : (n : ℕ) (a : Bool) (bs : List Bool) → replicate n a ++ (a ∷ bs) ≡ a ∷ (replicate n a ++ bs)
replicate_push zero a bs = refl
replicate_push (suc n) a bs = ap (◌∷◌ a) (replicate_push n a bs)

laid_runs : (a : Bool) (r : ℕ) (bs : List Bool) → laid_out a (runs a r bs) ≡ replicate r a ++ bs
laid_runs a r [] = refl
laid_runs true r (true ∷ bs) = laid_runs true (suc r) bs ∙ sym (replicate_push r true bs)
laid_runs true r (false ∷ bs) = ap (◌++◌ (replicate r true)) (laid_runs false 1 bs)
laid_runs false r (false ∷ bs) = laid_runs false (suc r) bs ∙ sym (replicate_push r false bs)
laid_runs false r (true ∷ bs) = ap (◌++◌ (replicate r false)) (laid_runs true 1 bs)

laid_widths : (bs : List Bool) → laid_out false (widths bs) ≡ bs
laid_widths [] = refl
laid_widths (b ∷ bs) = laid_runs false 0 (b ∷ bs)

-- laid out from passive, the intervals are the levels of the judged samples
pub says_levels : (g : Gate) (s : List Float) → laid_out false (intervals_of g s) ≡ levels (judgements g s)
says_levels g s = laid_widths (levels (judgements g s))

runs_grow : (a : Bool) (r n : ℕ) (bs : List Bool) → runs a r (replicate n a ++ bs) ≡ runs a (r + n) bs
runs_grow a r zero bs = rw add-zero
runs_grow true r (suc n) bs = runs_grow true (suc r) n bs ∙ ap (λ (w : ℕ). runs true w bs) (omega arith)
runs_grow false r (suc n) bs = runs_grow false (suc r) n bs ∙ ap (λ (w : ℕ). runs false w bs) (omega arith)

-- one sample of the other level, and then n more, make a run of n + 1
runs_next : (a : Bool) (n : ℕ) (bs : List Bool) → runs a 1 (replicate n a ++ bs) ≡ runs a (suc n) bs
runs_next a n bs = runs_grow a 1 n bs ∙ ap (λ (w : ℕ). runs a w bs) (omega arith)

runs_laid : (a : Bool) (r : ℕ) (ws : List ℕ) → AtLeastOne ws → runs a r (laid_out (not a) ws) ≡ r ∷ ws
runs_laid a r [] h = refl
runs_laid a r (zero ∷ ws) h = absurd (omega arith)
runs_laid true r (suc n ∷ ws) h = ap (◌∷◌ r) (runs_next false n (laid_out true ws) ∙ runs_laid false (suc n) ws h.1)
runs_laid false r (suc n ∷ ws) h = ap (◌∷◌ r) (runs_next true n (laid_out false ws) ∙ runs_laid true (suc n) ws h.1)

widths_laid : (ws : List ℕ) (bs : List Bool) → AtLeastOne (later ws) → laid_out false ws ≡ bs → (length bs ≡ 0 → ws ≡ []) → ws ≡ widths bs
widths_laid ws [] h e none = none refl
widths_laid [] (b ∷ bs) h e none = cc
widths_laid (w ∷ ws) (b ∷ bs) h e none = sym (ap (runs false 0) (sym e) ∙ runs_grow false 0 w (laid_out true ws) ∙ rw zero-add (runs_laid false w ws h))

-- no other intervals, of which every later one is at least 1, say these levels
pub no_other : (g : Gate) (s : List Float) (ws : List ℕ) → AtLeastOne (later ws)
    → laid_out false ws ≡ levels (judgements g s) → (length s ≡ 0 → ws ≡ []) → ws ≡ intervals_of g s
no_other g s ws h e none = widths_laid ws (levels (judgements g s)) h e (λ z. none (sym (levels_length g s) ∙ z))
