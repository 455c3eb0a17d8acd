-- Definitions.
-- Reading on from position to position in a recording: each answer that is a frame or a fault has a next position further on, so
-- that reading on ends; and the end that closes a frame opens the next one.
use Rattle.std.specs.Prelude.{ℕ, ◌+◌, ◌-◌, ◌≤◌, ◌<◌, ◌≡◌, refl, true, false, List, ◌⊎◌, length}
use Rattle.std.proofs.Common.{inl, inr, arith}
use Rattle.laws.specs.Tests.{never}
use Rattle.frame.specs.Line.{Line, single, end_at, at, opening}
use Rattle.frame.specs.Reading.{Good, Outcome, good, decided, read_on}
use Rattle.frame.specs.Faults.{most_bytes}
use Rattle.frame.specs.ReadPromise.{tells}
use Rattle.frame.specs.FirstLaws.{at_first}
use Rattle.frame.proofs.Decided.{Decision, is_unfinished, is_good, is_faulty, decision, good_at}
use Rattle.frame.specs.ReadStated.{GoodAt, ReadCase, is_past, is_short, is_quiet, is_opened, goes_on}
use Rattle.frame.proofs.Outcomes.{comes, OpenedBy, opened_by}
use Rattle.frame.specs.ReadingOn.{next_of, Onward, ReadsFrom, answers_by, reads_by, few_answers}

-- ## Progress

decided_on : (limit : ℕ) (l : Line) (o : ℕ) (x : Outcome) → Decision limit l o x → goes_on x ≡ true → (o < next_of x) × (next_of x < l.count)
decided_on limit l o x (is_unfinished u) g = never g refl
decided_on limit l o x (is_good e f h) g = (e.later, e.inside)
decided_on limit l o x (is_faulty e h) g = (e.later, e.inside)

-- The next position of a frame or a fault lies after the position that was read from, and in the recording.
pub progress : (limit : ℕ) (l : Line) (p lent : ℕ) → goes_on (read_on limit l p lent) ≡ true
    → (p < next_of (read_on limit l p lent)) × (next_of (read_on limit l p lent) < l.count)
progress limit l p lent g =
    let r : OpenedBy limit l p lent (read_on limit l p lent) = opened_by limit l p lent (read_on limit l p lent) g refl in
    let d : (r.opening < next_of (read_on limit l p lent)) × (next_of (read_on limit l p lent) < l.count) = decided_on limit l r.opening (read_on limit l p lent) (rw r.is_decided at (decision limit l r.opening)) g in
    (omega (arith, r.opens.from, d.0), d.1)

-- ## On a recording

-- Each answer that reading goes on from leaves less to read.
pub left_less : (limit : ℕ) (l : Line) (lent p : ℕ) → goes_on (read_on limit l p lent) ≡ true → l.count - next_of (read_on limit l p lent) < l.count - p
left_less limit l lent p g = let m = progress limit l p lent g in omega arith

-- Reading on from position to position on a line.
abbrev pub on_line : (limit : ℕ) → Line → (lent : ℕ) → Onward ℕ
on_line limit l lent =
    record {
      answer = λ p. read_on limit l p lent;
      after = λ p. next_of (read_on limit l p lent);
      left = λ p. l.count - p;
      less = left_less limit l lent;
    }

-- The answers from p on in a recording of document 01, each read from the next position of the one before.
abbrev pub ReadsOn : List ℕ → (lent p : ℕ) → List Outcome → Type 0
ReadsOn ws lent p xs = ReadsFrom (on_line most_bytes (single ws) lent) p xs

-- the same list computed, with a bound on its length
unfoldable pub answers_in : ℕ → List ℕ → ℕ → ℕ → List Outcome
answers_in n ws lent p = answers_by n (on_line most_bytes (single ws) lent) p

-- So many answers are enough as there are intervals from p on, and one.
pub reads_on : (n : ℕ) (ws : List ℕ) (lent p : ℕ) → length ws < p + n → 0 < n → ReadsOn ws lent p (answers_in n ws lent p)
unfolding answers_in
reads_on n ws lent p h k = reads_by n (on_line most_bytes (single ws) lent) p (omega arith)

-- There are at most as many answers as intervals from p on, and one.
pub reads_few : (ws : List ℕ) (lent : ℕ) {p : ℕ} {xs : List Outcome} → p ≤ length ws → ReadsOn ws lent p xs → p + length xs ≤ length ws + 1
reads_few ws lent h r = omega (arith, few_answers r)

-- Where reading on stops, with bytes enough lent and the position in the recording, it is quiet or unfinished: 1 or 2.
pub stops : (limit : ℕ) (l : Line) (p lent : ℕ) → p ≤ l.count → limit ≤ lent → goes_on (read_on limit l p lent) ≡ false
    → ((tells (read_on limit l p lent)).number ≡ 1) ⊎ ((tells (read_on limit l p lent)).number ≡ 2)
stops limit l p lent h fits g = go (read_on limit l p lent) (comes limit l p lent) g
  where
    by : (o : ℕ) (x : Outcome) → Decision limit l o x → goes_on x ≡ false → ((tells x).number ≡ 1) ⊎ ((tells x).number ≡ 2)
    by o x (is_unfinished u) g = inr refl
    by o x (is_good e f n) g = never refl g
    by o x (is_faulty e n) g = never refl g

    go : (x : Outcome) → ReadCase limit l p lent x → goes_on x ≡ false → ((tells x).number ≡ 1) ⊎ ((tells x).number ≡ 2)
    go x (is_past a) g = absurd (omega arith)
    go x (is_short a b) g = absurd (omega arith)
    go x (is_quiet a b) g = inl refl
    go x (is_opened {o} a b op) g = by o (decided limit l o) (decision limit l o) g

-- ## A closing end opens

-- Reading from an end finds its opening there.
pub end_opens : (l : Line) (k : ℕ) → end_at l k ≡ true → k < l.count → opening l k ≡ at k
unfolding opening
end_opens l k e h =
    at_first (end_at l) k (l.count - k) k
    (record { from = omega arith; before = omega arith; holds = e; none_earlier = λ j a b. absurd (omega arith) })

-- "A closing end may thus open the next frame": from a good frame's next position the opening is that position itself.
pub closing_opens : (limit : ℕ) (l : Line) (p lent : ℕ) (f : Good) → read_on limit l p lent ≡ good f → opening l f.next ≡ at f.next
closing_opens limit l p lent f e =
    let r : OpenedBy limit l p lent (good f) = opened_by limit l p lent (good f) refl e in
    let g : GoodAt limit l r.opening f = good_at limit l r.opening f r.is_decided in
    end_opens l f.next g.end g.earliest.inside
