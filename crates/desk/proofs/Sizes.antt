-- The whole text of an input stands first in the page.
use Prim.Native.Nat.{ℕ, zero, suc, ◌≤◌}
use mathlib.Core.Path.{◌≡◌, refl, sym, ap, ◌∙◌}
use mathlib.Core.List.{List}
use mathlib.Core.Logic.{inl, inr}
use native.Mathlib.Omega.{arith}
use lib.ListN.{length, take, drop}
use lib.Seq.{take-append_seam}
use Rattle.desk.specs.Texts.{if_bad, WholeText}
use Rattle.desk_text.specs.declared.Answered.{Answered}
use Rattle.desk_text.specs.declared.Answered.TheVariants.{Report, Refused}
use Rattle.desk_text.specs.declared.FewLent.{FewLent}
use Rattle.std.specs.Prelude.{Result, Ok, Err, Some, None, is_ok, true}
use Rattle.desk_text.specs.Report.{desk_of}
use Rattle.desk_text.specs.Input.{lines, first_bad, most_widths}
use Rattle.desk_text.specs.Promise.{most_text, lent_short, laid_on, answered_told, DeskPromise}
use Rattle.desk_text.specs.ExactlyWhen.{desk_61, desk_line, desk_none, desk_writes}
use Rattle.desk_text.specs.Whole.{desk_size}

module _ {s words left entry exit : List ℕ} {r : Result Answered FewLent} (q : DeskPromise s words left entry exit r) (w : most_widths ≤ length words) (b : most_text ≤ length entry) where
  -- enough is lent
  enough : ¬ (lent_short (length words) (length entry)).Holds
  enough (inl h) = omega arith
  enough (inr h) = omega arith

  -- the text stands first in the page, and its length is told
  text : (n : ℕ) → (answered_told r).length ≡ n → (n ≤ most_text) × (take n exit ≡ desk_of s)
  text n e =
      let d = desk_writes q enough in
      let k : n ≡ length (desk_of s) = sym e ∙ d.1 in
      (omega (arith, desk_size s), ap (take n) d.0 ∙ ap (λ (j : ℕ). take j (laid_on (desk_of s) entry)) k ∙ take-append_seam (desk_of s) (drop (length (desk_of s)) entry))

  -- a report is of an input without a bad line
  none_bad : (answered_told r).number ≡ 0 → None ≡ if_bad (first_bad (lines s))
  none_bad e = go (first_bad (lines s)) ((desk_none q).0 e).1.0
    where
      go : (n : ℕ) → ¬ (¬ (n ≡ 0)) → None ≡ if_bad n
      go zero h = refl
      go (suc n) h = absurd (h (λ z. omega arith))

  -- .. and a refusal is of one with the line told
  some_bad : (k : ℕ) → (answered_told r).number ≡ 62 → (answered_told r).line ≡ k → Some k ≡ if_bad (first_bad (lines s))
  some_bad k e l = go (first_bad (lines s)) (sym l ∙ desk_line q e) (λ z. absurd (never ((desk_none q).1 (enough, ((λ n. n z), tt)))))
    where
      never : (answered_told r).number ≡ 0 → ⊥
      never z = omega arith

      go : (n : ℕ) → k ≡ n → (n ≡ 0 → ⊥) → Some k ≡ if_bad n
      go zero h z = absurd (z refl)
      go (suc n) h z = ap Some h

  -- the desk does not refuse
  pub text_ok : is_ok r ≡ true
  text_ok = go r refl
    where
      go : (x : Result Answered FewLent) → r ≡ x → is_ok x ≡ true
      go (Ok a) e = refl
      go (Err f) e = absurd (enough ((desk_61 q).exactly.0 (ap (λ (a : Result Answered FewLent). (answered_told a).number) e)))

  pub text_report : {a : Answered} {n : ℕ} → r ≡ Ok a → a ≡ Report n → WholeText s exit (record { length = n; line = None })
  text_report {n = n} o i =
      let e : r ≡ Ok (Report n) = o ∙ ap Ok i in
      let t = text n (ap (λ (a : Result Answered FewLent). (answered_told a).length) e) in
      record { fits = t.0; whole = t.1; line = none_bad (ap (λ (a : Result Answered FewLent). (answered_told a).number) e) }

  pub text_refusal : {a : Answered} {k n : ℕ} → r ≡ Ok a → a ≡ Refused k n → WholeText s exit (record { length = n; line = Some k })
  text_refusal {k = k} {n = n} o i =
      let e : r ≡ Ok (Refused k n) = o ∙ ap Ok i in
      let t = text n (ap (λ (a : Result Answered FewLent). (answered_told a).length) e) in
      record {
        fits = t.0;
        whole = t.1;
        line = some_bad k (ap (λ (a : Result Answered FewLent). (answered_told a).number) e) (ap (λ (a : Result Answered FewLent). (answered_told a).line) e);
      }
