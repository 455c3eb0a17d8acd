-- How the tests of a label decide its definition.
use Prim.Native.Nat.{ℕ}
use mathlib.Core.Path.{◌≡◌, refl, ap}
use mathlib.Core.Bool.{Bool, true, false, ◌&&◌}
use mathlib.Core.List.{List, [], ◌∷◌}
use lib.ListN.{length}
use Rattle.std.specs.List.{list_all}
use Rattle.label.specs.Labels.{among, every, label_byte, most_label, is_label}

pub every_byte : (test : ℕ → Bool) (s : List ℕ) → list_all test s ≡ every test s
unfolding every
every_byte test [] = refl
every_byte test (x ∷ xs) = ap (λ b. test x && b) (every_byte test xs)

pub length_good : (s : List ℕ) {r : Bool} → among 1 most_label (length s) ≡ true → r ≡ list_all label_byte s → r ≡ is_label s
unfolding is_label
length_good s h e = rw (h, ← every_byte) e

pub length_bad : (s : List ℕ) → among 1 most_label (length s) ≡ false → false ≡ is_label s
unfolding is_label
length_bad s h = rw h
