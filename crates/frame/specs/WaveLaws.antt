-- Laws.
-- What a wave puts on the line is found there: the places of a recording carry the symbols that are meant.
use Rattle.std.specs.Prelude.{ℕ, suc, ◌+◌, ◌%◌, ◌≡◌, refl, Bool, true, false, not, List, [], ◌∷◌, ◌++◌, map, length, get_or}
use Rattle.std.proofs.Common.{ap, ◌∙◌, arith, add-zero, length-append, eqb-true, eq-eqb, ne_eqb}
use Rattle.std.proofs.Math.Seq.{get_or-append_seam, append_snoc}
use Rattle.std.proofs.lemmas.Bool.{eqb-false}
use Rattle.symbol.specs.declared.Symbol.{Symbol}
use Rattle.symbol.specs.ClassLaws.{class_only}
use Rattle.symbol.specs.Sending.{bit_symbol}
use Rattle.frame.specs.Signs.{Sign, bit}
use Rattle.frame.specs.Line.{active_at, symbol_at, sign_of, Line, single}
use Rattle.frame.specs.Waves.{Wave, still, pulse}
use Rattle.frame.specs.WriteStated.{Carry}

-- ## Levels

-- The level turns from place to place.
pub level_turns : (i : ℕ) → active_at (i + 1) ≡ not (active_at i)
level_turns i = go (active_at i) refl
  where
    go : (b : Bool) → active_at i ≡ b → active_at (i + 1) ≡ not b
    go true e = ne_eqb ((i + 1) % 2) 1 (λ h. omega (arith, eqb-true (i % 2) 1 e))
    go false e =
        let odd : ¬ (i % 2 ≡ 1) = eqb-false (i % 2) 1 e in
        eq-eqb ((i + 1) % 2) 1 (omega arith)

-- the level after a row of intervals
abbrev pub turned : {A : Type 0} → Bool → List A → Bool
turned active [] = active
turned active (x ∷ xs) = turned (not active) xs

-- A wave and a wave after it are a wave.
pub wave_append : {active : Bool} {a b : List Symbol} {ws vs : List ℕ} → Wave active a ws → Wave (turned active a) b vs → Wave active (a ++ b) (ws ++ vs)
wave_append still v = v
wave_append (pulse h w) v = pulse h (wave_append w v)

-- A wave has a width for each symbol.
pub wave_length : {active : Bool} {symbols : List Symbol} {ws : List ℕ} → Wave active symbols ws → length ws ≡ length symbols
wave_length still = refl
wave_length (pulse h w) = ap suc (wave_length w)

-- ## Places

-- the places from i on hold these widths
abbrev pub Stand : List ℕ → ℕ → List ℕ → Type 0
Stand ws i [] = Unit {0}
Stand ws i (v ∷ vs) = (get_or ws i 0 ≡ v) × Stand ws (i + 1) vs

-- Words that stand after others stand from their number on.
pub stands_after : (before vs after : List ℕ) → Stand (before ++ (vs ++ after)) (length before) vs
stands_after before [] after = tt
stands_after before (v ∷ vs) after =
    let n : length (before ++ (v ∷ [])) ≡ length before + 1 = length-append before (v ∷ []) in (
      get_or-append_seam before v (vs ++ after) 0,
      rw (append_snoc before v (vs ++ after), n) at (stands_after (before ++ (v ∷ [])) vs after),
    )

-- Places that hold a wave carry its symbols.
pub wave_carries : (ws : List ℕ) (i : ℕ) {active : Bool} {symbols : List Symbol} {vs : List ℕ} → Wave active symbols vs
    → active_at i ≡ active → Stand ws i vs → Carry ws i symbols
unfolding symbol_at
wave_carries ws i still e h = tt
wave_carries ws i (pulse {active} {s} {w} k v) e h =
    (rw (e, h.0) (class_only active s w k), wave_carries ws (i + 1) v (level_turns i ∙ ap not e) h.1)

-- Symbols and symbols after them, carried by the places that follow.
pub carry_append : (ws : List ℕ) (i : ℕ) (a b : List Symbol) → Carry ws i a → Carry ws (i + length a) b → Carry ws i (a ++ b)
carry_append ws i [] b c d = rw (add-zero i) at d
carry_append ws i (s ∷ a) b c d =
    let n : i + suc (length a) ≡ i + 1 + length a = omega arith in
    (c.0, carry_append ws (i + 1) a b c.1 (rw n at d))

-- Widths and widths after them, held by the places that follow.
pub stand_append : (ws : List ℕ) (i : ℕ) (a b : List ℕ) → Stand ws i (a ++ b) → Stand ws i a × Stand ws (i + length a) b
stand_append ws i [] b h = (tt, rw (add-zero i) h)
stand_append ws i (v ∷ a) b h =
    let r = stand_append ws (i + 1) a b h.1 in
    let n : i + suc (length a) ≡ i + 1 + length a = omega arith in
    ((h.0, r.0), rw n r.1)

-- ## What places show

-- the places from i on show these signs
abbrev pub Shows : Line → ℕ → List Sign → Type 0
Shows l i [] = Unit {0}
Shows l i (s ∷ ss) = (l.shows i ≡ s) × Shows l (i + 1) ss

-- A bit's symbol shows the bit.
pub bit_shown : (b : Bool) → sign_of (bit_symbol b) ≡ bit b
bit_shown true = refl
bit_shown false = refl

-- Places that carry symbols show what those do.
pub carry_shows : (ws : List ℕ) (i : ℕ) (symbols : List Symbol) → Carry ws i symbols → Shows (single ws) i (map sign_of symbols)
carry_shows ws i [] c = tt
carry_shows ws i (s ∷ symbols) c = (ap sign_of c.0, carry_shows ws (i + 1) symbols c.1)

-- Signs and signs after them, shown by the places after.
pub shows_append : (l : Line) (i : ℕ) (a b : List Sign) → Shows l i a → Shows l (i + length a) b → Shows l i (a ++ b)
shows_append l i [] b c d = rw (add-zero i) at d
shows_append l i (s ∷ a) b c d =
    let n : i + suc (length a) ≡ i + 1 + length a = omega arith in
    (c.0, shows_append l (i + 1) a b c.1 (rw n at d))
