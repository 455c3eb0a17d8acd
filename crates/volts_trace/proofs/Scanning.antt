-- The rule of 35 as a test of each sample, as the code goes through them. Assumes nothing.
use mathlib.Core.Path.{◌≡◌, refl, ap}
use mathlib.Core.Bool.{◌||◌}
use mathlib.Core.List.{List, [], ◌∷◌}
use lib.Ieee.{Float}
use Rattle.std.specs.List.{list_any}
use Rattle.volts.specs.Judging.{judged}
use Rattle.volts.specs.Levels.{is_unusable}
use Rattle.volts.specs.Promise.{sample_unusable}
use Rattle.volts.specs.declared.Gate.{Gate}

pub any_unusable : (g : Gate) (s : List Float) → list_any (λ x. is_unusable (judged g x)) s ≡ sample_unusable g s
unfolding sample_unusable
any_unusable g [] = refl
any_unusable g (x ∷ xs) = ap (λ b. is_unusable (judged g x) || b) (any_unusable g xs)
