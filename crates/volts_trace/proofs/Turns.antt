-- The loop of `write_intervals`: what holds at each turn, that a turn keeps it, and what it says at the end. Assumes nothing.
use Prim.Native.Nat.{ℕ, ◌+◌, ◌≤◌, ◌<◌}
use mathlib.Core.Path.{◌≡◌, refl, sym, ap, ◌∙◌}
use mathlib.Core.Bool.{Bool, true, false, beq}
use mathlib.Core.List.{List, [], ◌∷◌, ◌++◌, append_assoc}
use native.Mathlib.Numerals.{add-one}
use native.Mathlib.Omega.{arith}
use lib.Ieee.{Float, nan}
use lib.ListN.{length, get_or, take, drop, set, length-set, length-append, drop_of_length-le}
use lib.Seq.{drop-cons, drop-drop, drop-set-lt, take-suc-set, set_split, length-take-le}
use Rattle.volts.specs.Judging.{judged}
use Rattle.volts.specs.Levels.{judgements, level_after, levels_from}
use Rattle.volts.specs.Intervals.{runs, intervals_of}
use Rattle.volts.specs.declared.Gate.{Gate}

-- the intervals of what is left of a trace, with the run that goes on; at the start they are those of the whole trace
abbrev pub ahead : Gate → Bool → ℕ → List Float → List ℕ
ahead g active width s = runs active width (levels_from active (judgements g s))

-- `next` words are written, the run that goes on has lasted `width` samples at the level `active`, and sample i is to come
pub record Turn (g : Gate) (s : List Float) (lent words : List ℕ) (next width : ℕ) (active : Bool) (i : ℕ) : Type 0 where
  pub inside : i ≤ length s
  pub few : next ≤ i
  pub short : width ≤ i
  pub long : length words ≡ length lent
  pub rest : drop next words ≡ drop next lent
  pub whole : take next words ++ ahead g active width (drop i s) ≡ ahead g false 0 s

pub turn_first : (g : Gate) (s : List Float) (lent : List ℕ) → Turn g s lent lent 0 0 false 0
turn_first g s lent = record { inside = omega arith; few = omega arith; short = omega arith; long = refl; rest = refl; whole = refl }

runs_same : (a b : Bool) (r : ℕ) (bs : List Bool) → beq b a ≡ true → runs a r (b ∷ bs) ≡ runs b (r + 1) bs
runs_same true true r bs t = rw add-one
runs_same true false r bs t = cc
runs_same false true r bs t = cc
runs_same false false r bs t = rw add-one

runs_other : (a b : Bool) (r : ℕ) (bs : List Bool) → beq b a ≡ false → runs a r (b ∷ bs) ≡ r ∷ runs b 1 bs
runs_other true true r bs t = cc
runs_other true false r bs t = refl
runs_other false true r bs t = refl
runs_other false false r bs t = cc

drop_more : (k : ℕ) (a b : List ℕ) → drop k a ≡ drop k b → drop (k + 1) a ≡ drop (k + 1) b
drop_more k a b e = sym (drop-drop 1 k a) ∙ ap (drop 1) e ∙ drop-drop 1 k b

module _ (g : Gate) (s : List Float) (lent words : List ℕ) (next width : ℕ) (active : Bool) (i : ℕ) (turn : Turn g s lent words next width active i) where
  module _ (level : Bool) (more : i < length s) (e : level ≡ level_after active (judged g (get_or s i nan))) where
    levels_step : levels_from active (judgements g (drop i s)) ≡ level ∷ levels_from level (judgements g (drop (i + 1) s))
    levels_step = rw (drop-cons s i nan, add-one, e)

    -- a sample at the level of the run that goes on
    pub turn_same : beq level active ≡ true → Turn g s lent words next (width + 1) level (i + 1)
    turn_same t = record {
      inside = omega arith;
      few = omega arith;
      short = omega arith;
      long = turn.long;
      rest = turn.rest;
      whole = rw (levels_step, runs_same active level width _ t) at turn.whole;
    }

    -- a sample at the other level: the run has ended, and its width is written
    pub turn_other : length s < length lent → beq level active ≡ false → Turn g s lent (set words next width) (next + 1) 1 level (i + 1)
    turn_other room t =
        let in_words : next < length words = omega (arith, turn.long) in
        record {
          inside = omega arith;
          few = omega arith;
          short = omega arith;
          long = rw length-set turn.long;
          rest = drop-set-lt (next + 1) words next width (omega arith) ∙ drop_more next words lent turn.rest;
          whole = rw (add-one next, take-suc-set words next width in_words, append_assoc) (rw (levels_step, runs_other active level width _ t) at turn.whole);
        }

  module _ (done : length s ≤ i) (any : 0 < length s) (room : length s < length lent) where
    all_written : take next words ++ (width ∷ []) ≡ intervals_of g s
    all_written = rw (drop_of_length-le s done) at turn.whole ∙ some s any
      where
        some : (s : List Float) → 0 < length s → ahead g false 0 s ≡ intervals_of g s
        some [] h = absurd (omega arith)
        some (x ∷ xs) h = refl

    pub turn_count : next + 1 ≡ length (intervals_of g s)
    turn_count =
        let h : next ≤ length words = omega (arith, turn.long) in
        rw (← all_written, length-append, length-take-le next words h)

    pub turn_words : set words next width ≡ intervals_of g s ++ drop (next + 1) lent
    turn_words =
        let h : next < length words = omega (arith, turn.long) in
        rw (← all_written, append_assoc, set_split words next width h, ← drop_more next words lent turn.rest, add-one)
