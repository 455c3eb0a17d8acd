-- Laws.
-- How long the desk's text can be: each line, the number of lines, and the whole.
use Rattle.std.specs.Prelude.{ℕ, suc, ◌+◌, ◌-◌, ◌*◌, ◌%◌, ◌≤◌, ◌<◌, ◌≡◌, refl, true, false, List, [], ◌∷◌, ◌⊎◌, length}
use Rattle.std.proofs.Common.{inl, inr, arith, eq-or-lt_of_le}
use Rattle.std.proofs.Math.ListN.{length-append}
use Rattle.laws.specs.Tests.{never}
use Rattle.frame.specs.declared.Response.{Response}
use Rattle.frame.specs.declared.Response.TheVariants.{Without, Plain, Checked}
use Rattle.frame.specs.declared.Fault.{Fault}
use Rattle.frame.specs.declared.Fault.TheVariants.{Noise, NoSof, Break, Stuck, LateSof, SplitByte, FewBytes, WrongCheck, EodAfterResponse, ThirteenthByte}
use Rattle.frame.specs.Faults.{most_bytes}
use Rattle.frame.specs.Reading.{Outcome, good, quiet, unfinished, faulty, refused, reading}
use Rattle.frame.specs.ReadPromise.{fault_number}
use Rattle.frame.specs.ReadStated.{goes_on}
use Rattle.frame.specs.ReadingOn.{next_of, last, more}
use Rattle.frame.proofs.RecordingOn.{ReadsOn, reads_on}
use Rattle.label.specs.Labels.{most_label}
use Rattle.desk_text.specs.Input.{most_widths}
use Rattle.desk_text.specs.Numerals.{decimal}
use Rattle.desk_text.specs.Report.{line_of, header, at_of, kind_of, main_of, marked, response_of, answer_text, answers_text, answers, report}
use Rattle.desk_text.specs.Promise.{most_text}
use Rattle.desk_text.specs.NumeralLaws.{five_digits, two_digits, hex_length}
use Rattle.desk_text.specs.AnswerLaws.{answer_is}
use Rattle.desk_text.specs.Stated.{Answer, is_silence, is_open, is_frame, is_fault}

-- ## A line

line_six : (a b c d e f : List ℕ) → length (line_of (a ∷ b ∷ c ∷ d ∷ e ∷ f ∷ [])) ≡ length a + length b + length c + length d + length e + length f + 6
line_six a b c d e f =
    let g : List ℕ = line_of (f ∷ []) in
    let h : List ℕ = line_of (e ∷ f ∷ []) in
    let i : List ℕ = line_of (d ∷ e ∷ f ∷ []) in
    let j : List ℕ = line_of (c ∷ d ∷ e ∷ f ∷ []) in
    let k : List ℕ = line_of (b ∷ c ∷ d ∷ e ∷ f ∷ []) in
    omega (arith, length-append f (10 ∷ []), length-append e (9 ∷ g), length-append d (9 ∷ h), length-append c (9 ∷ i), length-append b (9 ∷ j), length-append a (9 ∷ k))

fault_below : (f : Fault) → fault_number f < 100
fault_below Noise = omega arith
fault_below NoSof = omega arith
fault_below Break = omega arith
fault_below Stuck = omega arith
fault_below LateSof = omega arith
fault_below SplitByte = omega arith
fault_below FewBytes = omega arith
fault_below WrongCheck = omega arith
fault_below EodAfterResponse = omega arith
fault_below ThirteenthByte = omega arith

marked_size : (kind : Response) (bs : List ℕ) → length (marked kind bs) ≤ 2 + 2 * length bs
marked_size Without bs = omega arith
marked_size Plain bs = omega (arith, hex_length bs)
marked_size Checked bs = omega (arith, hex_length bs)

-- the first even place from p on
abbrev up : ℕ → ℕ
up p = p + p % 2

up_to : (p o : ℕ) → p ≤ o → o % 2 ≡ 0 → up p ≤ o
up_to p o h e = go (eq-or-lt_of_le h)
  where
    go : (p ≡ o) ⊎ (p < o) → up p ≤ o
    go (inl q) = rw (q, e) (omega arith)
    go (inr l) = omega arith

up_after : (o k : ℕ) → o < k → o % 2 ≡ 0 → o + 2 ≤ up k
up_after o k h e = go (eq-or-lt_of_le h)
  where
    go : (suc o ≡ k) ⊎ (suc o < k) → o + 2 ≤ up k
    go (inl q) = let r : suc o % 2 ≡ 1 = omega arith in rw (← q, r) (omega arith)
    go (inr l) = omega arith

up_inside : (k n : ℕ) → k < n → up k ≤ n
up_inside k n h = omega arith

-- how long the line of an answer can be, by its kind
abbrev pub most_line : Outcome → ℕ
most_line (good f) = 74
most_line (faulty number next) = 53
most_line (quiet next) = 50
most_line (unfinished opening) = 55
most_line (refused number) = 0

module _ (customer vehicle : List ℕ) (c : length customer ≤ most_label) (v : length vehicle ≤ most_label) where
  -- No line is longer.
  pub line_size : (ws : List ℕ) (p : ℕ) (x : Outcome) → length ws ≤ most_widths → p ≤ length ws → Answer ws p x → length (answer_text customer vehicle x) ≤ most_line x
  unfolding answer_text
  line_size ws p x h i is_silence =
      omega (arith, line_six customer vehicle (decimal (at_of x)) (kind_of x) (main_of x) (response_of x), five_digits p (omega arith))
  line_size ws p x h i (is_open {o} a b) =
      omega (arith, line_six customer vehicle (decimal (at_of x)) (kind_of x) (main_of x) (response_of x), five_digits o (omega arith))
  line_size ws p x h i (is_frame {f} a b d e g) =
      omega (arith, line_six customer vehicle (decimal (at_of x)) (kind_of x) (main_of x) (response_of x), five_digits f.opening (omega arith), hex_length f.main, marked_size f.kind f.response)
  line_size ws p x h i (is_fault {o} {k} {n} f e a b d g) =
      omega (arith, line_six customer vehicle (decimal (at_of x)) (kind_of x) (main_of x) (response_of x), five_digits k (omega arith), two_digits n (omega (arith, fault_below f)))

  -- ## The lines of a recording

  module _ (ws : List ℕ) (h : length ws ≤ most_widths) where
    last_size : (p : ℕ) (x : Outcome) → p ≤ length ws → Answer ws p x → goes_on x ≡ false → length (answer_text customer vehicle x) ≤ 55
    last_size p x i is_silence e = omega (arith, line_size ws p x h i is_silence)
    last_size p x i (is_open a b) e = line_size ws p x h i (is_open a b)
    last_size p x i (is_frame a b d f g) e = never refl e
    last_size p x i (is_fault f n a b d g) e = never refl e

    -- A frame or a fault uses up two places or more, at 27 bytes each: its opening stands at an even place, and the next
    -- opening cannot stand at the odd place after it.
    record Uses (p : ℕ) (x : Outcome) : Type 0 where
      bytes : length (answer_text customer vehicle x) + 27 * (length ws - up (next_of x)) ≤ 27 * (length ws - up p)
      places : 2 + (length ws - up (next_of x)) ≤ length ws - up p
      inside : next_of x ≤ length ws

    uses : (p : ℕ) (x : Outcome) → p ≤ length ws → Answer ws p x → goes_on x ≡ true → Uses p x
    uses p x i is_silence e = never e refl
    uses p x i (is_open a b) e = never e refl
    uses p x i (is_frame {f} a b d g m) e =
        let r = line_size ws p x h i (is_frame a b d g m) in
        let u = up_to p f.opening a b in
        let w = up_inside f.next (length ws) g in
        record { bytes = omega arith; places = omega arith; inside = omega arith }
    uses p x i (is_fault {o} {k} f n a b d g) e =
        let r = line_size ws p x h i (is_fault f n a b d g) in
        let u = up_to p o a b in
        let v = up_after o k d b in
        let w = up_inside k (length ws) g in
        record { bytes = omega arith; places = omega arith; inside = omega arith }

    record Fits (p : ℕ) (xs : List Outcome) : Type 0 where
      bytes : length (answers_text customer vehicle xs) ≤ 55 + 27 * (length ws - up p)
      lines : 2 * length xs ≤ 2 + (length ws - up p)

    fits : {p : ℕ} {xs : List Outcome} → p ≤ length ws → ReadsOn ws most_bytes p xs → Fits p xs
    unfolding answers_text
    fits i (last {s = p} e) =
        record {
          bytes = omega (arith, last_size p (reading ws p most_bytes) i (answer_is ws p i) e, length-append (answer_text customer vehicle (reading ws p most_bytes)) []);
          lines = omega arith;
        }
    fits i (more {s = p} {xs} e r) =
        let u = uses p (reading ws p most_bytes) i (answer_is ws p i) e in
        let k = fits u.inside r in
        record {
          bytes = omega (arith, u.bytes, k.bytes, length-append (answer_text customer vehicle (reading ws p most_bytes)) (answers_text customer vehicle xs));
          lines = omega (arith, u.places, k.lines);
        }

    all_read : ReadsOn ws most_bytes 0 (answers ws)
    all_read = reads_on (length ws + 1) ws most_bytes 0 (omega arith) (omega arith)

    -- At most one line for every two intervals, and one.
    pub answers_few : 2 * length (answers ws) ≤ length ws + 2
    answers_few = omega (arith, (fits (omega arith) all_read).lines)

    -- No report is longer than what is asked to be lent.
    pub report_size : length (report customer vehicle ws) ≤ most_text
    unfolding report
    report_size = omega (arith, (fits (omega arith) all_read).bytes, length-append header (answers_text customer vehicle (answers ws)))
