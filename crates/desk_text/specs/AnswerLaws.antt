-- Laws.
-- What the answers of a recording can be: reading from within it, with twelve bytes lent, is never turned away.
use Rattle.std.specs.Prelude.{ℕ, ◌+◌, ◌%◌, ◌≤◌, ◌<◌, ◌≡◌, refl, true, List, length}
use Rattle.std.proofs.Common.{arith}
use Rattle.std.proofs.lemmas.Bool.{eqb-false}
use Rattle.symbol.specs.Clocks.{nominal_clock}
use Rattle.frame.specs.Line.{symbol_at, single, end_at}
use Rattle.frame.specs.Standing.{stands}
use Rattle.frame.specs.Faults.{most_bytes}
use Rattle.frame.specs.Reading.{Good, Outcome, frame_at, decided, reading}
use Rattle.frame.proofs.ShownLaws.{end_passive}
use Rattle.frame.proofs.Outcomes.{comes}
use Rattle.frame.specs.ReadStated.{Opens, ReadCase, is_past, is_short, is_quiet, is_opened}
use Rattle.frame.proofs.Decided.{Decision, is_unfinished, is_good, is_faulty, decision}
use Rattle.frame.proofs.FaultLaws.{wrong_named, fault_named}
use Rattle.frame.specs.Admitted.{admitted}
use Rattle.frame.specs.WriteStated.{Admitted, WrittenAgain}
use Rattle.frame.proofs.Again.{written_again}
use Rattle.frame.specs.Nominal.{without_check, response_bare}
use Rattle.frame.proofs.WidthLaws.{frame_words_length}
use Rattle.desk_text.specs.Stated.{Answer, is_silence, is_open, is_frame, is_fault}

-- ## Places and sizes

-- an end stands at an even place
end_even : (ws : List ℕ) (o : ℕ) → end_at (single ws) o ≡ true → o % 2 ≡ 0
end_even ws o e =
    let n : ¬ (o % 2 ≡ 1) = eqb-false (o % 2) 1 (end_passive ws o e) in
    omega arith

-- a frame has an opening, a SOF, at least two bytes and a closing end, and at most twelve bytes
record Sized (f : Good) : Type 0 where
  far : f.opening + 18 ≤ f.next
  few : length f.main + length f.response ≤ most_bytes

sized : (ws : List ℕ) (f : Good) → f.opening < f.next → WrittenAgain ws f → Sized f
sized ws f h w =
    let a : Admitted (without_check f.main) f.kind (response_bare f.kind f.response) = (admitted (without_check f.main) f.kind (response_bare f.kind f.response)).0 w.is_admitted in
    let few : length f.main + length f.response ≤ most_bytes = rw (w.main_again, w.response_again) at a.at_most in
    record { far = omega (arith, w.as_many, frame_words_length nominal_clock (without_check f.main) f.kind (response_bare f.kind f.response), a.some_main); few = few }

-- Every reading from within a recording is one of the four.
pub answer_is : (ws : List ℕ) (p : ℕ) → p ≤ length ws → Answer ws p (reading ws p most_bytes)
answer_is ws p h = go (reading ws p most_bytes) (comes most_bytes (single ws) p most_bytes) refl
  where
    opened : (o : ℕ) → Opens (single ws) p o → (x : Outcome) → Decision most_bytes (single ws) o x → reading ws p most_bytes ≡ x → Answer ws p x
    opened o op x (is_unfinished u) e = is_open op.from (omega (arith, op.followed))
    opened o op x (is_good {k} c n g) e =
        let s = sized ws (frame_at (single ws) o k) c.later (written_again ws p most_bytes (frame_at (single ws) o k) e) in
        is_frame op.from (end_even ws o op.end) s.far c.inside s.few
    opened o op x (is_faulty {k} c f) e =
        let n = fault_named most_bytes (stands (single ws) o k) ((single ws).shows k) (wrong_named (symbol_at ws k)) f in
        is_fault n.fault_is n.number_is op.from (end_even ws o op.end) c.later c.inside

    go : (x : Outcome) → ReadCase most_bytes (single ws) p most_bytes x → reading ws p most_bytes ≡ x → Answer ws p x
    go x (is_past a) e = absurd (omega arith)
    go x (is_short a b) e = absurd (omega arith)
    go x (is_quiet a b) e = is_silence
    go x (is_opened {o} a b op) e = opened o op (decided most_bytes (single ws) o) (decision most_bytes (single ws) o) e
