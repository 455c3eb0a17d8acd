-- Laws.
-- Laws of one place.
use Rattle.std.specs.Prelude.{ℕ, ◌≤◌, ◌≡◌, refl, Bool, true, cond, is_some, ◌||◌, Option, None, Some}
use Rattle.std.proofs.Common.{eq-eqb, le-leb}
use Rattle.bench_lane.specs.declared.Lane.{Lane}
use Rattle.bench_lane.specs.declared.Ask.{Ask}
use Rattle.bench_lane.specs.declared.Ask.TheVariants.{Out}
use Rattle.bench_lane.specs.Lane.{ask_of}

-- Of a place that has sent its last bit no byte and no width matters.
pub ended_same : (a b : Lane) (x y : ℕ) (active : Bool) (j : ℕ) → a.count ≡ b.count → a.lost ≡ b.lost → b.count ≤ j
    → ask_of a x active j ≡ ask_of b y active j
unfolding ask_of
ended_same a b x y active j p q h = rw (p, q, le-leb b.count j h)

-- A place that has nothing to send is out ..
pub out_empty : (lane : Lane) (byte : ℕ) (active : Bool) (j : ℕ) → lane.count ≡ 0 → ask_of lane byte active j ≡ Out
unfolding ask_of
out_empty lane byte active j h = rw (eq-eqb lane.count 0 h) (go lane.lost _)
  where
    go : (lost : Option ℕ) (a : Ask) → cond (is_some lost || true) Out a ≡ Out
    go None a = refl
    go (Some k) a = refl

-- .. and so is one that has lost, whatever else there is of it.
pub out_lost : (lane : Lane) (byte : ℕ) (active : Bool) (j : ℕ) → is_some lane.lost ≡ true → ask_of lane byte active j ≡ Out
unfolding ask_of
out_lost lane byte active j h = rw h
