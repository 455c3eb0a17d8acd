-- Laws.
-- What the line does at one bit: the width on it is one that is asked for, nobody asks for less (where it is passive) or for
-- more (where it is active), and the bit on it is a 0 if somebody sends a 0.
use Rattle.std.specs.Prelude.{ℕ, ◌≤◌, ◌<◌, min, max, ◌≡◌, refl, ◌⊎◌, Bool, true, false, ◌&&◌, List, [], ◌∷◌}
use Rattle.std.proofs.Common.{inl, inr, subst, arith}
use Rattle.laws.specs.Tests.{up_to}
use Rattle.symbol.specs.ClassLaws.{class_only}
use Rattle.symbol.specs.Sending.{SendingWindow, bit_symbol}
use Rattle.symbol.specs.SendingLaws.{sending_inside}
use Rattle.bench.specs.Course.{Pulse, widths_of, shortest, longest, lasts, on_line}
use Rattle.bench.specs.RoundStated.{OneOf, InWindows, only_ones}

-- ## The shortest and the longest

-- The shortest is asked for by somebody, where anybody asks.
pub shortest_asked : (w : ℕ) (ws : List ℕ) → OneOf (shortest (w ∷ ws)) (w ∷ ws)
unfolding shortest
shortest_asked w [] = inl refl
shortest_asked w (v ∷ ws) = go (up_to w (shortest (v ∷ ws))) (shortest_asked v ws)
  where
    go : (w ≤ shortest (v ∷ ws)) ⊎ (shortest (v ∷ ws) < w) → OneOf (shortest (v ∷ ws)) (v ∷ ws) → OneOf (min w (shortest (v ∷ ws))) (w ∷ v ∷ ws)
    go (inl h) r = inl (omega arith)
    go (inr h) r = let e : shortest (v ∷ ws) ≡ min w (shortest (v ∷ ws)) = omega arith in inr (subst (λ (n : ℕ). OneOf n (v ∷ ws)) e r)

-- Nobody asks for less than the shortest.
pub shortest_least : (v : ℕ) (ws : List ℕ) → OneOf v ws → shortest ws ≤ v
unfolding shortest
shortest_least v [] o = absurd o
shortest_least v (w ∷ []) (inl e) = omega arith
shortest_least v (w ∷ []) (inr o) = absurd o
shortest_least v (w ∷ u ∷ ws) (inl e) = omega arith
shortest_least v (w ∷ u ∷ ws) (inr o) = omega (arith, shortest_least v (u ∷ ws) o)

-- The longest is asked for by somebody, where anybody asks.
pub longest_asked : (w : ℕ) (ws : List ℕ) → OneOf (longest (w ∷ ws)) (w ∷ ws)
unfolding longest
longest_asked w [] = inl (omega arith)
longest_asked w (v ∷ ws) = go (up_to (longest (v ∷ ws)) w) (longest_asked v ws)
  where
    go : (longest (v ∷ ws) ≤ w) ⊎ (w < longest (v ∷ ws)) → OneOf (longest (v ∷ ws)) (v ∷ ws) → OneOf (max w (longest (v ∷ ws))) (w ∷ v ∷ ws)
    go (inl h) r = inl (omega arith)
    go (inr h) r = let e : longest (v ∷ ws) ≡ max w (longest (v ∷ ws)) = omega arith in inr (subst (λ (n : ℕ). OneOf n (v ∷ ws)) e r)

-- Nobody asks for more than the longest.
pub longest_most : (v : ℕ) (ws : List ℕ) → OneOf v ws → v ≤ longest ws
unfolding longest
longest_most v [] o = absurd o
longest_most v (w ∷ ws) (inl e) = omega arith
longest_most v (w ∷ ws) (inr o) = omega (arith, longest_most v ws o)

-- ## The bit on the line

-- A width in the sending window of a bit is that bit on the line.
pub on_line_law : (active one : Bool) (w : ℕ) → SendingWindow active (bit_symbol one) w → on_line active w ≡ one
unfolding on_line
on_line_law active true w h = rw (class_only active (bit_symbol true) w (sending_inside active (bit_symbol true) w h))
on_line_law active false w h = rw (class_only active (bit_symbol false) w (sending_inside active (bit_symbol false) w h))

-- The width on the line lies in the sending window of 0 if somebody sends a 0, and of 1 otherwise.
pub lasts_in : (active : Bool) (p : Pulse) (ps : List Pulse) → InWindows active (p ∷ ps)
    → SendingWindow active (bit_symbol (only_ones (p ∷ ps))) (lasts active (widths_of (p ∷ ps)))
unfolding shortest longest
lasts_in active p [] h = go active p.bit p.width h.0
  where
    go : (active one : Bool) (w : ℕ) → SendingWindow active (bit_symbol one) w → SendingWindow active (bit_symbol (one && true)) (lasts active (w ∷ []))
    go false false w h = h
    go false true w h = h
    go true false w h = omega arith
    go true true w h = omega arith
lasts_in active p (q ∷ ps) h = go active p.bit (only_ones (q ∷ ps)) p.width h.0 (lasts_in active q ps h.1)
  where
    vs : List ℕ
    vs = widths_of ps

    go : (active one ones : Bool) (w : ℕ) → SendingWindow active (bit_symbol one) w
        → SendingWindow active (bit_symbol ones) (lasts active (q.width ∷ vs))
        → SendingWindow active (bit_symbol (one && ones)) (lasts active (w ∷ q.width ∷ vs))
    go false false false w h k = omega arith
    go false false true w h k = omega arith
    go false true false w h k = omega arith
    go false true true w h k = omega arith
    go true false false w h k = omega arith
    go true false true w h k = omega arith
    go true true false w h k = omega arith
    go true true true w h k = omega arith

-- The bit on the line is a 1 exactly where nobody sends a 0.
pub line_bit : (active : Bool) (p : Pulse) (ps : List Pulse) → InWindows active (p ∷ ps)
    → on_line active (lasts active (widths_of (p ∷ ps))) ≡ only_ones (p ∷ ps)
line_bit active p ps h = on_line_law active (only_ones (p ∷ ps)) (lasts active (widths_of (p ∷ ps))) (lasts_in active p ps h)
