-- Laws.
-- What the table of widths gives to the rooms above: one symbol for each width at each level, and where the edges stand.
use Rattle.std.specs.Prelude.{ℕ, ◌≡◌, refl, Bool, true, false, [], ◌∷◌, map}
use Rattle.std.proofs.Common.{sym, ◌∙◌, ⊎_elim, arith, le-leb, lt-ltb, le-ltb}
use Rattle.std.proofs.lemmas.Bool.{lt-leb}
use Rattle.laws.specs.Tests.{up_to}
use Rattle.symbol.specs.declared.Symbol.{Symbol}
use Rattle.symbol.specs.declared.Symbol.TheVariants.{Noise, Bit0, Bit1, Eod, Sof, Eof, Ifs, Break, Stuck}
use Rattle.symbol.specs.Classes.{Window, class_of, end_of, ends}

-- A width that lies in a symbol's window has that symbol and no other.
pub class_only : (active : Bool) (s : Symbol) (w : ℕ) → Window active s w → class_of active w ≡ s
unfolding class_of
class_only false Noise w h = rw (le-leb w 34 h)
class_only false Bit0 w h = rw (lt-leb w 34 h.0, le-leb w 96 h.1)
class_only false Bit1 w h = rw (lt-leb w 34 (omega arith), lt-leb w 96 h.0, le-leb w 163 h.1)
class_only false Eod w h =
    rw (lt-leb w 34 (omega arith), lt-leb w 96 (omega arith), lt-leb w 163 h.0, le-leb w 239 h.1)
class_only false Eof w h =
    rw (lt-leb w 34 (omega arith), lt-leb w 96 (omega arith), lt-leb w 163 (omega arith), lt-leb w 239 h.0, le-leb w 280 h.1)
class_only false Ifs w h =
    rw (lt-leb w 34 (omega arith), lt-leb w 96 (omega arith), lt-leb w 163 (omega arith), lt-leb w 239 (omega arith), lt-leb w 280 h)
class_only false Sof w h = absurd h
class_only false Break w h = absurd h
class_only false Stuck w h = absurd h
class_only true Noise w h = rw (le-leb w 34 h)
class_only true Bit1 w h = rw (lt-leb w 34 h.0, le-leb w 96 h.1)
class_only true Bit0 w h = rw (lt-leb w 34 (omega arith), lt-leb w 96 h.0, le-leb w 163 h.1)
class_only true Sof w h =
    rw (lt-leb w 34 (omega arith), lt-leb w 96 (omega arith), lt-leb w 163 h.0, le-leb w 239 h.1)
class_only true Break w h =
    rw (lt-leb w 34 (omega arith), lt-leb w 96 (omega arith), lt-leb w 163 (omega arith), lt-leb w 239 h.0, lt-ltb w 1000000 h.1)
class_only true Stuck w h =
    rw (lt-leb w 34 (omega arith), lt-leb w 96 (omega arith), lt-leb w 163 (omega arith), lt-leb w 239 (omega arith), le-ltb w 1000000 h)
class_only true Eod w h = absurd h
class_only true Eof w h = absurd h
class_only true Ifs w h = absurd h

-- Every width lies in the window of the symbol that it has: with class-only, it has exactly one symbol at each level.
pub class_in : (active : Bool) (w : ℕ) → Window active (class_of active w) w
class_in false w =
    ⊎_elim (λ h. meet Noise h)
    (λ a. ⊎_elim (λ h. meet Bit0 (a, h))
    (λ b. ⊎_elim (λ h. meet Bit1 (b, h))
    (λ c. ⊎_elim (λ h. meet Eod (c, h))
    (λ d. ⊎_elim (λ h. meet Eof (d, h)) (λ h. meet Ifs h)
    (up_to w 280)) (up_to w 239)) (up_to w 163)) (up_to w 96)) (up_to w 34)
  where
    meet : (s : Symbol) → Window false s w → Window false (class_of false w) w
    meet s h = rw (class_only false s w h) h
class_in true w =
    ⊎_elim (λ h. meet Noise h)
    (λ a. ⊎_elim (λ h. meet Bit1 (a, h))
    (λ b. ⊎_elim (λ h. meet Bit0 (b, h))
    (λ c. ⊎_elim (λ h. meet Sof (c, h))
    (λ d. ⊎_elim (λ h. meet Break (d, omega arith)) (λ h. meet Stuck h)
    (up_to w 999999)) (up_to w 239)) (up_to w 163)) (up_to w 96)) (up_to w 34)
  where
    meet : (s : Symbol) → Window true s w → Window true (class_of true w) w
    meet s h = rw (class_only true s w h) h

-- No width lies in the windows of two symbols.
pub one_symbol : (active : Bool) (s t : Symbol) (w : ℕ) → Window active s w → Window active t w → s ≡ t
one_symbol active s t w h k = sym (class_only active s w h) ∙ class_only active t w k

-- The edges of each window with their neighbours outside: every pair of widths here parts two rows of a column, and the
-- first and last width of each column that a u32 can hold stand at its ends.
pub passive_edges : map (class_of false) (0 ∷ 34 ∷ 35 ∷ 96 ∷ 97 ∷ 163 ∷ 164 ∷ 239 ∷ 240 ∷ 280 ∷ 281 ∷ 4294967295 ∷ []) ≡
    (Noise ∷ Noise ∷ Bit0 ∷ Bit0 ∷ Bit1 ∷ Bit1 ∷ Eod ∷ Eod ∷ Eof ∷ Eof ∷ Ifs ∷ Ifs ∷ [])
unfolding class_of
passive_edges = refl

-- the same where the line is active
pub active_edges : map (class_of true) (0 ∷ 34 ∷ 35 ∷ 96 ∷ 97 ∷ 163 ∷ 164 ∷ 239 ∷ 240 ∷ 999999 ∷ 1000000 ∷ 4294967295 ∷ []) ≡
    (Noise ∷ Noise ∷ Bit1 ∷ Bit1 ∷ Bit0 ∷ Bit0 ∷ Sof ∷ Sof ∷ Break ∷ Break ∷ Stuck ∷ Stuck ∷ [])
unfolding class_of
active_edges = refl

-- A symbol's window says whether its widths are ends.
window_ends : (active : Bool) (s : Symbol) (w : ℕ) → Window active s w → end_of active w ≡ ends s
unfolding end_of
window_ends false Noise w h = lt-leb 240 w (omega arith)
window_ends false Bit0 w h = lt-leb 240 w (omega arith)
window_ends false Bit1 w h = lt-leb 240 w (omega arith)
window_ends false Eod w h = lt-leb 240 w (omega arith)
window_ends false Eof w h = le-leb 240 w (omega arith)
window_ends false Ifs w h = le-leb 240 w (omega arith)
window_ends false Sof w h = absurd h
window_ends false Break w h = absurd h
window_ends false Stuck w h = absurd h
window_ends true Noise w h = refl
window_ends true Bit0 w h = refl
window_ends true Bit1 w h = refl
window_ends true Sof w h = refl
window_ends true Break w h = refl
window_ends true Stuck w h = refl
window_ends true Eod w h = absurd h
window_ends true Eof w h = absurd h
window_ends true Ifs w h = absurd h

-- An interval is an end exactly when its symbol is EOF or IFS.
pub end_is : (active : Bool) (w : ℕ) → end_of active w ≡ ends (class_of active w)
end_is active w = window_ends active (class_of active w) w (class_in active w)
