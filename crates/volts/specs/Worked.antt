-- Definitions.
-- The edges of the rules, worked from the definitions: points that document 01 settles in a word or leaves to the reader, each
-- as one small case. Nothing else rests on them; they show that the definitions mean what one expects. The starred trace stands
-- with the other starred items, in the room `worked`.
use Rattle.std.specs.Prelude.{ℕ, ◌≡◌, refl, Bool, true, false, [], ◌∷◌, Float, pos, negsuc, replicate}
use Rattle.std.specs.Int.Count.{count_trailing_zeros}
use Rattle.std.specs.Float.{nan, inf, fin, binary32}
use Rattle.std.specs.Float.Ieee.{of_int, sub, add, neg, sum, round, size, units, odd, span, climb, lt, le, eq}
use Rattle.volts.specs.Judging.{is_finite, good_gate, against, judged}
use Rattle.volts.specs.Intervals.{intervals_of}
use Rattle.volts.specs.Promise.{wrote, turned_away, sample_unusable, outcome}
use Rattle.volts.specs.declared.Gate.{Gate}
use Rattle.volts.specs.declared.Judged.TheVariants.{Active, Passive, Between, Unusable}

-- a whole number of volts, as an f32
abbrev pub volts : ℕ → Float
volts n = of_int binary32 (pos n)

-- "The usual gate is 0, 6.25, 1.5": 6.25 is 25 quarters, 1.5 is 3 halves
abbrev pub usual_gate : Gate
usual_gate = record { offset = volts 0; active = fin false 25 (negsuc 1); passive = fin false 3 (negsuc 0) }

-- the usual gate on a channel whose ground lies elsewhere
abbrev pub shifted : Float → Gate
shifted o = record { offset = o; active = usual_gate.active; passive = usual_gate.passive }

-- a gate of two levels
abbrev pub between : Float → Float → Gate
between a p = record { offset = volts 0; active = a; passive = p }

-- the largest f32, 2 to the 128th less 2 to the 104th, with its sign
abbrev pub largest : Bool → Float
largest negative = fin negative 0xff_ffff (pos 104)

-- a billionth of a volt or so, 2 to the -30th: too little to be seen beside 6.25 once the difference is rounded
abbrev pub tiny : Float
tiny = fin false 1 (negsuc 29)

-- the cases
pub record Edges : Type 0 where
  -- "At or above", "at or below": a sample exactly at a level
  pub at_active : judged usual_gate usual_gate.active ≡ Active usual_gate.active
  pub at_passive : judged usual_gate usual_gate.passive ≡ Passive usual_gate.passive
  -- the corrected volts are judged, and they go along: 7 volts over a ground of 1 are 6, which is below 6.25
  pub by_corrected : judged (shifted (volts 1)) (volts 7) ≡ Between (volts 6)
  -- "rounded once", and judged after: the exact difference is below the active level, the rounded one is at it
  pub after_rounding : judged (shifted tiny) usual_gate.active ≡ Active usual_gate.active
  -- "a sample or difference that isn't finite": a NaN, an infinity, and two finite numbers whose difference is too large
  pub nan_unusable : judged usual_gate nan ≡ Unusable
  pub infinity_unusable : judged usual_gate (inf true) ≡ Unusable
  pub overflow_unusable : judged (shifted (largest true)) (largest false) ≡ Unusable
  -- "passive level is below active level": equal levels are no gate, and neither is a NaN
  pub equal_levels : good_gate (between (volts 3) (volts 3)) ≡ false
  pub no_number : good_gate (between (volts 3) nan) ≡ false
  -- "the first is passive and may be 0": a trace that begins active; one that begins between the levels is passive
  pub begins_active : intervals_of usual_gate (volts 7 ∷ []) ≡ 0 ∷ 1 ∷ []
  pub begins_between : intervals_of usual_gate (volts 3 ∷ []) ≡ 1 ∷ []
  -- "under samples + 1": no samples ask for one lent word
  pub one_word : outcome usual_gate [] (0 ∷ []) ≡ wrote 0
  pub no_word : outcome usual_gate [] [] ≡ turned_away 32
  -- and five samples for six
  pub six_words : outcome usual_gate (volts 0 ∷ volts 7 ∷ volts 3 ∷ volts 3 ∷ volts 1 ∷ []) (replicate 6 0) ≡ wrote 3

-- They are so.
pub edges : Edges
unfolding outcome good_gate sample_unusable judged against is_finite of_int sub add neg sum round size units odd span climb lt le eq count_trailing_zeros
edges = record {
  at_active = refl;
  at_passive = refl;
  by_corrected = refl;
  after_rounding = refl;
  nan_unusable = refl;
  infinity_unusable = refl;
  overflow_unusable = refl;
  equal_levels = refl;
  no_number = refl;
  begins_active = refl;
  begins_between = refl;
  one_word = refl;
  no_word = refl;
  six_words = refl;
}
