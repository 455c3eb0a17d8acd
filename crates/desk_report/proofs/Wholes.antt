-- The whole text: the header and the lines of all answers, or a refusal, as judging has it.
use Prim.Native.Nat.{ℕ, ◌+◌, ◌-◌, ◌≤◌}
use mathlib.Core.Path.{◌≡◌, refl, sym, ap, ◌∙◌}
use mathlib.Core.Bool.{Bool, true, false, cond, not}
use mathlib.Core.List.{List, ◌++◌}
use native.Mathlib.Omega.{arith}
use lib.Dec.{eqb, ltb}
use lib.ListN.{length, take, drop, length-append}
use lib.Seq.{take_at}
use borrow.Rule.Slice.PartMut.{put_mid}
use borrow.Author.Tests.{le-ltb, ltb-false, eqb-true, eqb-false, ne_eqb}
use Rattle.laws.specs.Tests.{neither}
use Rattle.frame.specs.Faults.{most_bytes}
use Rattle.frame.proofs.RecordingOn.{answers_in}
use Rattle.desk_text.specs.declared.Labels.{Labels}
use Rattle.std.specs.Prelude.{Result, Ok, Err}
use Rattle.desk_text.specs.declared.GoodInput.{GoodInput}
use Rattle.desk_text.specs.declared.InputRefusal.{InputRefusal}
use Rattle.desk_text.specs.declared.InputRefusal.TheVariants.{Bad, FewLentWords}
use Rattle.desk_text.specs.declared.Answered.{Answered}
use Rattle.desk_text.specs.declared.Answered.TheVariants.{Report, Refused}
use Rattle.desk_text.specs.declared.FewLent.{FewLent}
use Rattle.desk_text.specs.Input.{Line, lines, first_bad, customer_of, vehicle_of, recording_of, most_widths}
use Rattle.desk_text.specs.Report.{header, refusal, answers_text, report, desk_of}
use Rattle.desk_text.specs.Promise.{JudgedTale, judging_by, judging, judged_told, laid_on, laid_words, laid_text, JudgePromise, most_text, lent_short, answering_by, answering, answered_told, DeskPromise}
use Rattle.desk_text.specs.LabelPlaces.{Stand, labels_stand}
use Rattle.desk_text.specs.Whole.{desk_good, desk_bad, desk_size}
use Rattle.desk_report.specs.Laying.{Laid, Space}
use Rattle.desk_report.specs.Reporting.{text_from, customer_in, vehicle_in, Within}
use Rattle.desk_report.proofs.Laying.{after, then, space_first, space_second}

-- ## A report

report_text : (customer vehicle ws : List ℕ) → report customer vehicle ws ≡ header ++ text_from customer vehicle ws 0
unfolding report text_from
report_text customer vehicle ws =
    let n : length ws + 1 ≡ length ws + 1 - 0 = omega arith in
    ap (λ (k : ℕ). header ++ answers_text customer vehicle (answers_in k ws most_bytes 0)) n

-- a part of n from a on, as `&s[a..a + n]` gives it
part : (a n : ℕ) (s : List ℕ) → take (a + n - a) (drop a s) ≡ take n (drop a s)
part a n s = let e : a + n - a ≡ n = omega arith in rw e

module _ {o : List ℕ} (s : List ℕ) (l : Labels) (ws : List ℕ) (h : Space (report (customer_in s l) (vehicle_in s l) ws) o) where
  abbrev answers_part : List ℕ
  answers_part = text_from (take (4 + l.customer - 4) (drop 4 s)) (take (4 + l.customer + 1 + l.vehicle - (4 + l.customer + 1)) (drop (4 + l.customer + 1) s)) ws 0

  whole : report (customer_in s l) (vehicle_in s l) ws ≡ header ++ answers_part
  whole = report_text (customer_in s l) (vehicle_in s l) ws ∙ rw (part 4 l.customer s, part (4 + l.customer + 1) l.vehicle s)

  pub header_space : Space header o
  header_space = space_first header answers_part (rw whole at h)

  module _ {k : ℕ} {p : List ℕ} (x : Laid header o p k) where
    pub lines_space : Space answers_part (after k p)
    lines_space = space_second (rw whole at h) x

    pub report_laid : {j : ℕ} {q : List ℕ} → Laid answers_part (after k p) q j → Laid (report (customer_in s l) (vehicle_in s l) ws) o (put_mid k (length p - k) p q) (k + j)
    report_laid y = rw whole (then (rw whole at h) x y)

-- ## What judging tells

abbrev good : Labels → ℕ → Result GoodInput InputRefusal
good l n = Ok (record { labels = l; widths = n })

-- a good input: its labels and its recording, which stands first in the words left
record Fine (s left : List ℕ) (l : Labels) (n : ℕ) : Type 0 where
  none_bad : first_bad (lines s) ≡ 0
  customer : l.customer ≡ length (customer_of (lines s))
  vehicle : l.vehicle ≡ length (vehicle_of (lines s))
  widths : take n left ≡ recording_of (lines s)
  count : n ≤ length left

-- the number where enough is lent, of a good input or a bad one
abbrev number_if : (good : Bool) → ℕ
number_if good = cond (not good) 62 0

-- .. by the lines
abbrev number_by : List Line → ℕ
number_by ls = number_if (eqb (first_bad ls) 0)

module _ (s words : List ℕ) (enough : most_widths ≤ length words) {left : List ℕ} where
  judged_by_law : {j : Result GoodInput InputRefusal} → JudgePromise s words left j → judged_told j ≡ judging_by (number_by (lines s)) (lines s)
  unfolding judging
  judged_by_law q = q.tells_it ∙ rw (le-ltb (length words) most_widths enough)

  words_by : {j : Result GoodInput InputRefusal} → JudgePromise s words left j → left ≡ laid_on (laid_words (number_by (lines s)) s) words
  unfolding judging
  words_by q = q.lends_it ∙ rw (le-ltb (length words) most_widths enough)

  fine : {l : Labels} {n : ℕ} → JudgePromise s words left (good l n) → Fine s left l n
  fine {l} {n} q = go (eqb (first_bad (lines s)) 0) refl (judged_by_law q)
    where
      go : (b : Bool) → eqb (first_bad (lines s)) 0 ≡ b → judged_told (good l n) ≡ judging_by (number_if b) (lines s) → Fine s left l n
      go true e t =
          let w : left ≡ laid_on (recording_of (lines s)) words = words_by q ∙ rw e in
          let m : n ≡ length (recording_of (lines s)) = ap (λ (x : JudgedTale). x.widths) t in
          record {
            none_bad = eqb-true (first_bad (lines s)) 0 e;
            customer = ap (λ (x : JudgedTale). x.customer) t;
            vehicle = ap (λ (x : JudgedTale). x.vehicle) t;
            widths = ap (take n) w ∙ take_at (recording_of (lines s)) (drop (length (recording_of (lines s))) words) n (sym m);
            count = omega (arith, ap length w, length-append (recording_of (lines s)) (drop (length (recording_of (lines s))) words));
          }
      go false e t = let z : ◌≡◌ {A = ℕ} 0 62 = ap (λ (x : JudgedTale). x.number) t in absurd (omega arith)

  -- a bad input: its first bad line
  flawed : {n : ℕ} → JudgePromise s words left (Err (Bad n)) → (n ≡ first_bad (lines s)) × (¬ (first_bad (lines s) ≡ 0))
  flawed {n} q = go (eqb (first_bad (lines s)) 0) refl (judged_by_law q)
    where
      go : (b : Bool) → eqb (first_bad (lines s)) 0 ≡ b → judged_told (Err (Bad n)) ≡ judging_by (number_if b) (lines s) → (n ≡ first_bad (lines s)) × (¬ (first_bad (lines s) ≡ 0))
      go true e t = let z : ◌≡◌ {A = ℕ} 62 0 = ap (λ (x : JudgedTale). x.number) t in absurd (omega arith)
      go false e t = (ap (λ (x : JudgedTale). x.line) t, eqb-false (first_bad (lines s)) 0 e)

  -- with enough words lent, judging is not turned away
  pub not_few : {A : Type 0} {j : Result GoodInput InputRefusal} → j ≡ Err FewLentWords → JudgePromise s words left j → A
  not_few e q = absurd (go (eqb (first_bad (lines s)) 0) (judged_by_law (rw e at q)))
    where
      go : (b : Bool) → judged_told (Err FewLentWords) ≡ judging_by (number_if b) (lines s) → ⊥
      go true t = let z : ◌≡◌ {A = ℕ} 61 0 = ap (λ (x : JudgedTale). x.number) t in omega arith
      go false t = let z : ◌≡◌ {A = ℕ} 61 62 = ap (λ (x : JudgedTale). x.number) t in omega arith

  -- ## The call

  -- the text is laid, and judging has laid the widths
  module _ {entry exit : List ℕ} {k : ℕ} (h : most_text ≤ length entry) (x : Laid (desk_of s) entry exit k) (w : left ≡ laid_on (laid_words (number_by (lines s)) s) words) where
    lent_enough : (lent_short (length words) (length entry)).says ≡ false
    lent_enough = rw (le-ltb (length words) most_widths enough, le-ltb (length entry) most_text h)

    promised : {r : Result Answered FewLent} → answered_told r ≡ answering_by (number_by (lines s)) s → DeskPromise s words left entry exit r
    unfolding answering
    promised t = record {
      tells_it = rw lent_enough t;
      words_it = rw lent_enough w;
      lends_it = rw (lent_enough, ← text_laid (eqb (first_bad (lines s)) 0)) x.lays;
    }
      where
        text_laid : (b : Bool) → desk_of s ≡ laid_text (number_if b) s
        text_laid true = refl
        text_laid false = refl

    size : k ≡ length (desk_of s)
    size = x.counts

  module _ {j : Result GoodInput InputRefusal} {l : Labels} {n : ℕ} (e : j ≡ good l n) (judged : JudgePromise s words left j) where
    q : JudgePromise s words left (good l n)
    q = rw e at judged

    f : Fine s left l n
    f = fine q

    stand : Stand s (customer_of (lines s)) (vehicle_of (lines s))
    stand = labels_stand s f.none_bad

    pub widths_inside : n ≤ length left
    widths_inside = f.count

    pub labels_within : Within s l
    labels_within = rw (f.customer, f.vehicle) stand.inside

    text : report (customer_in s l) (vehicle_in s l) (take n left) ≡ desk_of s
    text = rw (f.customer, f.vehicle, stand.customer_stands, stand.vehicle_stands, f.widths) (sym (desk_good s f.none_bad))

    pub report_space : {lent : List ℕ} → most_text ≤ length lent → Space (report (customer_in s l) (vehicle_in s l) (take n left)) lent
    report_space h = record { fits = rw text (omega (arith, desk_size s)) }

    pub desk_reports : {entry exit : List ℕ} {k : ℕ} → most_text ≤ length entry
        → Laid (report (customer_in s l) (vehicle_in s l) (take n left)) entry exit k → DeskPromise s words left entry exit (Ok (Report k))
    desk_reports h x =
        let y = rw text at x in
        promised h y (words_by q) (rw (f.none_bad, size h y (words_by q)))

  module _ {j : Result GoodInput InputRefusal} {n : ℕ} (e : j ≡ Err (Bad n)) (judged : JudgePromise s words left j) where
    b : JudgePromise s words left (Err (Bad n))
    b = rw e at judged

    refused_text : refusal n ≡ desk_of s
    refused_text = rw (flawed b).0 (sym (desk_bad s (flawed b).1))

    pub refusal_space : {lent : List ℕ} → most_text ≤ length lent → Space (refusal n) lent
    refusal_space h = record { fits = omega (arith, ap length refused_text, desk_size s) }

    pub desk_refuses : {entry exit : List ℕ} {k : ℕ} → most_text ≤ length entry → Laid (refusal n) entry exit k → DeskPromise s words left entry exit (Ok (Refused n k))
    desk_refuses h x =
        let y = rw refused_text at x in
        promised h y (words_by b) (rw (ne_eqb (first_bad (lines s)) 0 (flawed b).1, (flawed b).0, size h y (words_by b)))

-- ## Too little lent

module _ (s words entry : List ℕ) {b : Bool} (e : b ≡ (lent_short (length words) (length entry)).says) where
  pub few_lent : b ≡ true → DeskPromise s words words entry entry (Err (record {}))
  unfolding answering
  few_lent t = let d = sym e ∙ t in record { tells_it = rw d; words_it = rw d; lends_it = rw d }

  pub words_enough : b ≡ false → most_widths ≤ length words
  words_enough f = ltb-false (length words) most_widths (neither (ltb (length words) most_widths) (ltb (length entry) most_text) (sym e ∙ f)).0

  pub bytes_enough : b ≡ false → most_text ≤ length entry
  bytes_enough f = ltb-false (length entry) most_text (neither (ltb (length words) most_widths) (ltb (length entry) most_text) (sym e ∙ f)).1
