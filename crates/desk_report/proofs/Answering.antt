-- What the answer of the call that reads comes to: its line is the line of what reading is defined to answer.
use Prim.Native.Nat.{ℕ, ◌≤◌}
use mathlib.Core.Path.{◌≡◌, refl, sym, ap, ◌∙◌}
use mathlib.Core.List.{List, [], ◌∷◌, ◌++◌, append_assoc}
use native.Mathlib.Omega.{arith}
use lib.ListN.{length, take, drop, length-append}
use lib.Seq.{take_at, drop_at}
use Rattle.units.specs.declared.Place.{Place}
use Rattle.frame.specs.declared.Reading.{Reading}
use Rattle.frame.specs.declared.ReadRefusal.{ReadRefusal}
use Rattle.frame.specs.declared.Reading.TheVariants.{Frame, Quiet, Unfinished, Faulty}
use Rattle.frame.specs.Faults.{most_bytes}
use Rattle.frame.specs.Reading.{Good, Outcome, good, reading}
use Rattle.frame.specs.ReadPromise.{fault_number, bare, told, tells, lent_after, ReadPromise}
use Rattle.frame.proofs.ReadSettled.{told_once}
use Rattle.desk_text.specs.Grammar.{tab}
use Rattle.desk_text.specs.Numerals.{decimal, hex}
use Rattle.desk_text.specs.Report.{w_frame, w_quiet, w_unfinished, w_fault, w_none, line_of, marked, answer_text}
use Rattle.desk_text.specs.AnswerLaws.{answer_is}
use Rattle.desk_text.specs.Stated.{Answer, is_silence, is_open, is_frame, is_fault}
use Rattle.std.specs.Prelude.{Option, Result, Ok}
use Rattle.desk_answer.specs.Shown.{after_of}
use Rattle.desk_report.specs.Laying.{Laid, Space, tabbed, frame_end, fault_end, Holds, line_in}
use Rattle.desk_report.specs.Reporting.{answer_at, onwards, Stepped}

-- six fields, the first three each with its tab
joined : (c v d : List ℕ) (k m r : List ℕ) → tabbed c ++ (tabbed v ++ (tabbed d ++ line_of (k ∷ m ∷ r ∷ []))) ≡ line_of (c ∷ v ∷ d ∷ k ∷ m ∷ r ∷ [])
joined c v d k m r = rw (append_assoc c (tab ∷ []), append_assoc v (tab ∷ []), append_assoc d (tab ∷ []))

-- an answer, and what it prints
pub record Prints (customer vehicle : List ℕ) (r : Result Reading ReadRefusal) (bytes : List ℕ) (x : Outcome) : Type 0 where
  pub line : line_in customer vehicle r bytes ≡ answer_text customer vehicle x
  pub on : after_of r ≡ onwards x
  pub holds : Holds r bytes

abbrev place : ℕ → Place
place n = record { 0 = n }

module _ (customer vehicle : List ℕ) where
  -- a good frame's bytes stand first
  frame_prints : (f : Good) (rest : List ℕ)
      → Prints customer vehicle (Ok (Frame (record { main = length f.main; response = length f.response }) f.kind (place f.opening) (place f.next))) ((f.main ++ f.response) ++ rest) (good f)
  unfolding line_in answer_text frame_end
  frame_prints f rest =
      let main : List ℕ = f.main in
      let response : List ℕ = f.response in
      let a : take (length main) ((main ++ response) ++ rest) ≡ main = ap (take (length main)) (append_assoc main response rest) ∙ take_at main (response ++ rest) (length main) refl in
      let b : drop (length main) ((main ++ response) ++ rest) ≡ response ++ rest = ap (drop (length main)) (append_assoc main response rest) ∙ drop_at main (response ++ rest) (length main) refl in
      let c : take (length response) (response ++ rest) ≡ response = take_at response rest (length response) refl in
      record {
        line = rw (a, b, c) (joined customer vehicle (decimal f.opening) w_frame (hex main) (marked f.kind response));
        on = refl;
        holds = omega (arith, length-append (main ++ response) rest, length-append main response);
      }

  prints : (ws : List ℕ) (p : ℕ) (x : Outcome) → Answer ws p x → (r : Result Reading ReadRefusal) → told r ≡ tells x → (entry bytes : List ℕ) → bytes ≡ lent_after x entry → Prints customer vehicle r bytes x
  unfolding line_in answer_text fault_end
  prints ws p x is_silence r e entry bytes l =
      rw (told_once r (Ok (Quiet (place p))) e) (record { line = joined customer vehicle (decimal p) w_quiet w_none w_none; on = refl; holds = tt })
  prints ws p x (is_open {o} a b) r e entry bytes l =
      rw (told_once r (Ok (Unfinished (place o))) e) (record { line = joined customer vehicle (decimal o) w_unfinished w_none w_none; on = refl; holds = tt })
  prints ws p x (is_frame {f} a b c d g) r e entry bytes l =
      rw (told_once r (Ok (Frame (record { main = length f.main; response = length f.response }) f.kind (place f.opening) (place f.next))) e, l)
      (frame_prints f (drop (length (f.main ++ f.response)) entry))
  prints ws p x (is_fault {o} {k} {n} f q a b c d) r e entry bytes l =
      rw (told_once r (Ok (Faulty f (place k))) (e ∙ ap (λ (m : ℕ). bare m k 0) (sym q)))
      (record { line = joined customer vehicle (decimal k) (w_fault ++ decimal (fault_number f)) w_none w_none ∙ rw q; on = refl; holds = tt })

  -- the call's answer, with twelve bytes lent
  module _ (ws : List ℕ) (p : ℕ) (h : p ≤ length ws) {entry bytes : List ℕ} {r : Result Reading ReadRefusal} (n : most_bytes ≡ length entry) (q : ReadPromise ws p entry bytes r) where
    pub read_prints : Prints customer vehicle r bytes (answer_at ws p)
    read_prints =
        prints ws p (answer_at ws p) (answer_is ws p h) r (q.tells_it ∙ ap (λ (m : ℕ). tells (reading ws p m)) (sym n))
        entry bytes (q.lends_it ∙ ap (λ (m : ℕ). lent_after (reading ws p m) entry) (sym n))

    pub answer_space : {lent : List ℕ} → Space (answer_text customer vehicle (answer_at ws p)) lent → Space (line_in customer vehicle r bytes) lent
    answer_space g = rw read_prints.line g

    pub answer_stepped : {count : ℕ} {next : Option ℕ} {lent exit : List ℕ} → Laid (line_in customer vehicle r bytes) lent exit count → next ≡ after_of r
        → Stepped customer vehicle ws p lent exit (record { length = count; next = next })
    answer_stepped x e = record { line = rw read_prints.line at x; follows = e ∙ read_prints.on }
