-- The search for the opening, at even places alone.
use Prim.Native.Nat.{ℕ, zero, suc, ◌+◌, ◌-◌, ◌%◌, ◌≤◌, ◌<◌}
use mathlib.Core.Path.{◌≡◌, refl, sym, ap, ◌∙◌}
use mathlib.Core.Bool.{Bool, true, false, cond}
use mathlib.Core.List.{List}
use mathlib.Core.Logic.{◌⊎◌, inl, inr}
use native.Mathlib.Omega.{arith}
use native.Mathlib.Nat.{add-zero}
use lib.ListN.{length, get_or}
use borrow.Author.Tests.{eq-eqb, ne_eqb}
use Rattle.symbol.specs.Classes.{end_of}
use Rattle.laws.specs.Tests.{up_to}
use Rattle.frame.specs.Line.{single, end_at, Found, nowhere, at, opening}
use Rattle.frame.proofs.ShownLaws.{end_width_law}
use Rattle.frame.specs.FirstLaws.{first_at_law, first_empty, first_here, opening_is}
use Rattle.frame.specs.ReadStated.{IsFirst}
use Rattle.std.specs.Prelude.{Some, None}
use Rattle.frame_read.specs.Answering.{found_by}

pub open_none : (ws : List ℕ) (i : ℕ) → length ws ≤ i → opening (single ws) i ≡ nowhere
open_none ws i h = opening_is (single ws) i ∙ first_empty (end_at (single ws)) i (length ws) h

-- at an active place there is no end
open_active : (ws : List ℕ) (i : ℕ) → i % 2 ≡ 1 → opening (single ws) i ≡ opening (single ws) (i + 1)
unfolding end_of
open_active ws i e = go (up_to (length ws) i)
  where
    go : (length ws ≤ i) ⊎ (i < length ws) → opening (single ws) i ≡ opening (single ws) (i + 1)
    go (inl h) = open_none ws i h ∙ sym (open_none ws (i + 1) (omega arith))
    go (inr h) =
        opening_is (single ws) i
        ∙ first_here (end_at (single ws)) i (length ws) false h (end_width_law ws i ∙ rw (eq-eqb (i % 2) 1 e))
        ∙ sym (opening_is (single ws) (i + 1))

-- the search starts at an even place
pub open_even : (ws : List ℕ) (p : ℕ) → opening (single ws) p ≡ opening (single ws) (p + p % 2)
open_even ws p = go (p % 2) refl
  where
    go : (r : ℕ) → p % 2 ≡ r → opening (single ws) p ≡ opening (single ws) (p + r)
    go zero e = ap (opening (single ws)) (sym (add-zero p))
    go (suc zero) e = open_active ws p e
    go (suc (suc r)) e = absurd (omega arith)

-- at an even place: the end that was met is the opening, and otherwise the next even place is looked at
pub open_here : (ws : List ℕ) (i : ℕ) (r : Bool) → i < length ws → i % 2 ≡ 0 → r ≡ end_of false (get_or ws i 0) → (b : Bool) → r ≡ b
    → opening (single ws) i ≡ cond b (at i) (opening (single ws) (i + 2))
open_here ws i r h even e b g = here ∙ go b
  where
    two : i + 1 + 1 ≡ i + 2
    two = omega arith

    here : opening (single ws) i ≡ cond b (at i) (opening (single ws) (i + 1))
    here =
        opening_is (single ws) i
        ∙ first_here (end_at (single ws)) i (length ws) b h (end_width_law ws i ∙ rw (ne_eqb (i % 2) 1 (λ x. omega arith)) (sym e ∙ g))
        ∙ ap (cond b (at i)) (sym (opening_is (single ws) (i + 1)))

    go : (c : Bool) → cond c (at i) (opening (single ws) (i + 1)) ≡ cond c (at i) (opening (single ws) (i + 2))
    go true = refl
    go false = open_active ws (i + 1) (omega arith) ∙ ap (opening (single ws)) two

-- ## What the search answered

-- an opening that was found is the first end, and none that was found is none
pub opened_at : (ws : List ℕ) (p o : ℕ) → Some o ≡ found_by (opening (single ws) p) → opening (single ws) p ≡ at o
opened_at ws p o e = go (opening (single ws) p) (sym e)
  where
    go : (f : Found) → found_by f ≡ Some o → f ≡ at o
    go nowhere e = cc
    go (at k) e = cc

pub opened_none : (ws : List ℕ) (p : ℕ) → None ≡ found_by (opening (single ws) p) → opening (single ws) p ≡ nowhere
opened_none ws p e = go (opening (single ws) p) (sym e)
  where
    go : (f : Found) → found_by f ≡ None → f ≡ nowhere
    go nowhere e = refl
    go (at k) e = cc

-- an opening stands in the recording
pub opened_in : (ws : List ℕ) (p o : ℕ) → p ≤ length ws → Some o ≡ found_by (opening (single ws) p) → o < length ws
opened_in ws p o h e =
    let f : IsFirst (end_at (single ws)) p (length ws - p) o = first_at_law (end_at (single ws)) p (length ws - p) o (sym (opening_is (single ws) p) ∙ opened_at ws p o e) in
    omega (arith, f.before)
