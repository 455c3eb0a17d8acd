-- The parts of a line: what stands after each, and how they come to the whole.
use Prim.Native.Nat.{ℕ, ◌+◌, ◌-◌}
use mathlib.Core.Path.{◌≡◌, refl, sym, ◌∙◌}
use mathlib.Core.Bool.{Bool, true, false}
use mathlib.Core.List.{List, [], ◌∷◌, ◌++◌}
use native.Mathlib.Omega.{arith}
use lib.ListN.{take, drop}
use Rattle.frame.specs.declared.Lengths.{Lengths}
use Rattle.frame.specs.declared.Response.{Response}
use Rattle.frame.specs.declared.Response.TheVariants.{Without, Plain, Checked}
use Rattle.frame.specs.declared.Fault.{Fault}
use Rattle.frame.specs.declared.Reading.{Reading}
use Rattle.frame.specs.declared.ReadRefusal.{ReadRefusal}
use Rattle.std.specs.Prelude.{Result}
use Rattle.frame.specs.ReadPromise.{fault_number}
use Rattle.desk_text.specs.Grammar.{newline, tab}
use Rattle.desk_text.specs.Numerals.{decimal, hex}
use Rattle.desk_text.specs.Report.{w_frame, w_fault, w_none}
use Rattle.desk_answer.specs.Shown.{is_without, mark_of}
use Rattle.desk_report.specs.Laying.{Laid, Space, tabbed, response_end, frame_end, fault_end, end_of, place_of, line_in}
use Rattle.desk_report.proofs.Laying.{Left, first, space_first}

-- ## A response

-- what stands after the mark: bytes in hex and the newline, or nothing where there is no response
abbrev rest_of : Response → List ℕ → List ℕ
rest_of Without s = []
rest_of Plain s = hex s ++ (newline ∷ [])
rest_of Checked s = hex s ++ (newline ∷ [])

marked_whole : (kind : Response) (s : List ℕ) → response_end kind s ≡ mark_of kind ++ rest_of kind s
marked_whole Without s = refl
marked_whole Plain s = refl
marked_whole Checked s = refl

without_rest : (kind : Response) (s : List ℕ) → is_without kind ≡ true → rest_of kind s ≡ []
without_rest Without s e = refl
without_rest Plain s e = let z : ◌≡◌ {A = ℕ} 0 1 = cc in absurd (omega arith)
without_rest Checked s e = let z : ◌≡◌ {A = ℕ} 0 1 = cc in absurd (omega arith)

with_rest : (kind : Response) (s : List ℕ) → is_without kind ≡ false → rest_of kind s ≡ hex s ++ (newline ∷ [])
with_rest Without s e = let z : ◌≡◌ {A = ℕ} 0 1 = cc in absurd (omega arith)
with_rest Plain s e = refl
with_rest Checked s e = refl

module _ {o m : List ℕ} (kind : Response) (s : List ℕ) (e : m ≡ mark_of kind) (h : Space (response_end kind s) o) where
  marked_space : Space (m ++ rest_of kind s) o
  marked_space = rw (e, ← marked_whole kind s) h

  pub mark_space : Space m o
  mark_space = space_first m (rest_of kind s) marked_space

  module _ {k : ℕ} {p : List ℕ} (x : Laid m o p k) where
    after_mark : Left (rest_of kind s) (response_end kind s) o p k
    after_mark = rw (marked_whole kind s, ← e) (first marked_space x)

    pub without_left : {b : Bool} → b ≡ is_without kind → b ≡ true → Left [] (response_end kind s) o p k
    without_left d t = rw (without_rest kind s (sym d ∙ t)) at after_mark

    pub with_left : {b : Bool} → b ≡ is_without kind → b ≡ false → Left (hex s ++ (newline ∷ [])) (response_end kind s) o p k
    with_left d f = rw (with_rest kind s (sym d ∙ f)) at after_mark

-- ## A frame

abbrev frame_word : List ℕ
frame_word = w_frame ++ (tab ∷ [])

-- the bytes of a response, as `&s[m..m + r]` gives them
part : (m r : ℕ) (s : List ℕ) → take (m + r - m) (drop m s) ≡ take r (drop m s)
part m r s = let e : m + r - m ≡ r = omega arith in rw e

pub frame_parts : (n : Lengths) (kind : Response) (s : List ℕ)
    → frame_end n kind s ≡ frame_word ++ (hex (take n.main s) ++ ((tab ∷ []) ++ response_end kind (take (n.main + n.response - n.main) (drop n.main s))))
unfolding frame_end
frame_parts n kind s = rw (part n.main n.response s)

-- ## A fault

pub fault_parts : (f : Fault) {n : ℕ} → n ≡ fault_number f → fault_end f ≡ w_fault ++ (decimal n ++ (tab ∷ w_none ++ (tab ∷ w_none ++ (newline ∷ []))))
unfolding fault_end
fault_parts f e = rw e

-- ## A line

pub line_parts : (customer vehicle : List ℕ) (r : Result Reading ReadRefusal) (s : List ℕ) {n : ℕ} → n ≡ place_of r
    → line_in customer vehicle r s ≡ tabbed customer ++ (tabbed vehicle ++ (tabbed (decimal n) ++ end_of r s))
unfolding line_in
line_parts customer vehicle r s e = rw e
