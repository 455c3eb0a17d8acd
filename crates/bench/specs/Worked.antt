-- Definitions.
-- The rounds of document 01, "Worked on paper", that are not starred, computed from the definitions. The starred ones stand with
-- the other starred items, in the room `worked`.
use Rattle.std.specs.Prelude.{ℕ, ◌-◌, ◌≡◌, refl, Bool, true, false, List, [], ◌∷◌, ◌++◌, map, length, replicate}
use Rattle.symbol.specs.declared.Clock.{Clock}
use Rattle.symbol.specs.Classes.{class_of}
use Rattle.symbol.specs.Clocks.{good_of, nominal_clock}
use Rattle.checkbyte.specs.Register.{check_of, register_from, step_of}
use Rattle.frame.specs.Bits.{bits_of}
use Rattle.bench.specs.declared.Station.{Station}
use Rattle.bench.specs.declared.Fared.{Fared}
use Rattle.bench.specs.declared.Fared.TheVariants.{Idle, Through, Lost}
use Rattle.bench.specs.Stations.{most_stored, blank}
use Rattle.bench.specs.Course.{asked, shortest, longest, on_line, play}
use Rattle.bench.specs.Round.{pulses_of, sofs_asked, sum_of, round_among, round_of, after_fares}
use Rattle.bench.specs.Calls.{load, round, all_sound, all_empty, number_of, taken, done, after}

-- a station that holds a message
abbrev pub holds : Clock → List ℕ → Station
holds c m = record { clock = c; bytes = m ++ replicate (most_stored - length m) 0; len = length m }

-- a clock of these widths
abbrev pub clock_of : (short long sof : ℕ) → Clock
clock_of short long sof = record { short = record { 0 = short }; long = record { 0 = long }; sof = record { 0 = sof } }

-- which places a round lets through
unfoldable pub go_out : List Station → List Bool
go_out row = map is_through (round_of row).fares
  where
    is_through : Fared → Bool
    is_through Idle = false
    is_through Through = true
    is_through (Lost k) = false

-- 101 lent words
abbrev pub words : List ℕ
words = replicate 101 0

-- three stations that hold 00, FF and FF FF
abbrev pub three : List Station
three = holds nominal_clock (0x00 ∷ []) ∷ holds nominal_clock (0xFF ∷ []) ∷ holds nominal_clock (0xFF ∷ 0xFF ∷ []) ∷ []

-- "00, FF, FF FF all waiting: out in rounds 1, 3, 2."
pub first_out : go_out three ≡ true ∷ false ∷ false ∷ []
unfolding go_out round_of round_among play asked shortest longest on_line class_of pulses_of sofs_asked sum_of bits_of check_of register_from step_of
first_out = refl

-- FF FF in round 2 ..
pub second_out : go_out (after (round words) three) ≡ false ∷ false ∷ true ∷ []
unfolding go_out after taken number_of done after_fares all_sound all_empty good_of round_of round_among play asked shortest longest on_line class_of pulses_of sofs_asked sum_of bits_of check_of register_from step_of
second_out = refl

-- .. and FF in round 3.
pub third_out : go_out (after (round words) (after (round words) three)) ≡ false ∷ true ∷ false ∷ []
unfolding go_out after taken number_of done after_fares all_sound all_empty good_of round_of round_among play asked shortest longest on_line class_of pulses_of sofs_asked sum_of bits_of check_of register_from step_of
third_out = refl

-- "11 bytes are taken, 12 refused with 37. 101 words are enough, 100 give 32."
pub eleven_taken : number_of (load 0 (replicate 11 0xFF)) (blank ∷ []) ≡ 0
unfolding number_of all_sound good_of
eleven_taken = refl

-- 12 bytes
pub twelve_refused : number_of (load 0 (replicate 12 0xFF)) (blank ∷ []) ≡ 37
unfolding number_of all_sound good_of
twelve_refused = refl

-- 101 words
pub words_enough : number_of (round (replicate 101 0)) three ≡ 0
unfolding number_of all_sound all_empty good_of
words_enough = refl

-- 100 words
pub words_short : number_of (round (replicate 100 0)) three ≡ 32
unfolding number_of all_sound all_empty good_of
words_short = refl
