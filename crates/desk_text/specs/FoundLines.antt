-- Laws.
-- What a search for a byte through the whole of a text finds, and what the first newline that it finds says of the lines.
use Rattle.std.specs.Prelude.{ℕ, ◌+◌, ◌-◌, ◌<◌, ◌≡◌, refl, List, [], ◌∷◌, length, take, drop, Option, Some, None, MatchOption}
use Rattle.std.proofs.Common.{sym, ap, ◌∙◌, add-one, arith, length-drop, take_all}
use Rattle.desk_text.specs.Places.{index_of, slice}
use Rattle.desk_text.specs.Grammar.{newline}
use Rattle.desk_text.specs.Input.{shut, unshut, lines}
use Rattle.desk_text.specs.PieceLaws.{lines_first, lines_none}

-- The part from a on, as `&s[a..]` gives it.
pub rest_all : (s : List ℕ) (a : ℕ) → take (length s - a) (drop a s) ≡ drop a s
rest_all s a = take_all (length s - a) (drop a s) (omega (arith, length-drop a s))

-- A search through the part from 0 to the length of s finds the first place of the byte.
pub found : (b : ℕ) (s : List ℕ) (m : ℕ) → m ≡ 0 + index_of b (slice 0 (length s) s) → m ≡ index_of b s
unfolding slice
found b s m e = e ∙ rw (take_all (length s) s (omega arith)) (omega arith)

-- what `find` promises of its answer
abbrev pub Finds : ℕ → List ℕ → Option ℕ → Type 0
Finds b s r = MatchOption r (index_of b s ≡ length s) (λ m. (m ≡ index_of b s) × (m < length s))

-- No second answer meets that promise.
pub find_settled : (b : ℕ) (s : List ℕ) (q r : Option ℕ) → Finds b s q → Finds b s r → q ≡ r
find_settled b s None None h k = refl
find_settled b s None (Some m) h k = absurd (omega (arith, k.0, k.1))
find_settled b s (Some n) None h k = absurd (omega (arith, h.0, h.1))
find_settled b s (Some n) (Some m) h k = ap Some (h.0 ∙ sym k.0)

-- Where no newline is found the text is one line that none closes.
pub open_line : (t : List ℕ) → 0 < length t → index_of newline t ≡ length t → lines t ≡ unshut t ∷ []
open_line t h q = lines_none t h q

-- Where one is found it closes the first line, and the other lines are those of what follows.
pub closed_line : (t : List ℕ) {e : ℕ} → e ≡ index_of newline t → e < length t → lines t ≡ shut (take e t) ∷ lines (drop (e + 1) t)
closed_line t {e} i h = lines_first t (omega arith) ∙ rw (← i, add-one)
