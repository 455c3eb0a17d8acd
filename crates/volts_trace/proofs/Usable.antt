-- A sample of a trace in which none is unusable: its judgement is what the levels say of its difference. Assumes nothing.
use Prim.Native.Nat.{ℕ, ◌<◌}
use mathlib.Core.Path.{◌≡◌, refl}
use mathlib.Core.Bool.{Bool, true, false, ◌&&◌}
use mathlib.Core.List.{List}
use native.Mathlib.Omega.{arith}
use lib.Ieee.{Float, nan}
use lib.ListN.{length, get_or}
use Rattle.volts.specs.Judging.{is_finite, corrected, against, judged}
use Rattle.volts.specs.Promise.{sample_unusable}
use Rattle.volts.specs.Somewhere.{somewhere}
use Rattle.volts.specs.declared.Gate.{Gate}
use Rattle.volts.specs.declared.Judged.TheVariants.{Unusable}

unusable_if : (g : Gate) (x : Float) → (is_finite x && is_finite (corrected g x)) ≡ false → judged g x ≡ Unusable
unfolding judged
unusable_if g x e = rw e

module _ (g : Gate) (s : List Float) (i : ℕ) (none : sample_unusable g s ≡ false) (inside : i < length s) where
  by_finite : (b : Bool) → (is_finite (get_or s i nan) && is_finite (corrected g (get_or s i nan))) ≡ b
      → against g (corrected g (get_or s i nan)) ≡ judged g (get_or s i nan)
  unfolding judged
  by_finite true e = rw e
  by_finite false e =
      let some = (somewhere g s).1 (i, inside, unusable_if g (get_or s i nan) e) in
      let z : ◌≡◌ {A = ℕ} 0 1 = cc in
      absurd (omega arith)

  pub usable_at : against g (corrected g (get_or s i nan)) ≡ judged g (get_or s i nan)
  usable_at = by_finite (is_finite (get_or s i nan) && is_finite (corrected g (get_or s i nan))) refl
