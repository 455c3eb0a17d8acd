-- Laws.
-- The lines of the desk's text: after the header each has six fields, and begins with this recording's own customer and
-- vehicle; what follows them is told of the recording alone.
use Rattle.std.specs.Prelude.{ℕ, zero, suc, ◌+◌, ◌*◌, ◌/◌, ◌%◌, ◌≤◌, ◌≡◌, Bool, true, false, not, cond, ◌&&◌, eqb, ltb, length, get_or, drop}
use Rattle.std.proofs.Math.Path.{refl, ap}
use Rattle.std.proofs.Common.{sym, ◌∙◌, arith, ne_eqb, eqb-true}
use mathlib.Core.List.{List, [], ◌∷◌, ◌++◌, append_assoc, append-nil}
use Rattle.std.proofs.lemmas.Bool.{eqb-false, not-true}
use Rattle.laws.specs.Tests.{never, both}
use Rattle.frame.specs.declared.Response.{Response}
use Rattle.frame.specs.declared.Response.TheVariants.{Without, Plain, Checked}
use Rattle.frame.specs.Reading.{Good, Outcome, good, quiet, unfinished, faulty, refused}
use Rattle.label.specs.Labels.{every, label_byte, most_label, among, is_label}
use Rattle.desk_text.specs.Grammar.{newline, tab, pieces, fields}
use Rattle.desk_text.specs.Input.{Line, shut, lines, first_bad, customer_of, vehicle_of, recording_of}
use Rattle.desk_text.specs.Numerals.{numeral, decimal_in, decimal, hex_digit, hex, hex_spelt}
use Rattle.desk_text.specs.Report.{w_customer, w_vehicle, w_at, w_kind, w_main, w_response, w_refused, line_of, refusal, at_of, kind_of, main_of, marked, response_of, answer_text, answers_text, answers, report, desk_of}
use Rattle.desk_text.specs.Stated.{joined, tells_of, answer_line, answer_lines, header_line}
use Rattle.desk_text.specs.GoodLines.{label_size}
use Rattle.desk_text.specs.NumeralLaws.{hex_again}
use Rattle.desk_text.specs.Bounds.{answers_few}
use Rattle.desk_text.specs.Whole.{good_own, desk_good, desk_bad, recording_few}

-- ## Fields and lines, printed and read

-- a byte that parts nothing
unfoldable pub parts_not : ℕ → Bool
parts_not x = not (eqb x tab) && not (eqb x newline)

-- a field that can be printed and read again: nothing in it parts fields or lines
abbrev PlainField : List ℕ → Type 0
PlainField f = every parts_not f ≡ true

-- the same of each of several fields
abbrev AllPlain : List (List ℕ) → Type 0
AllPlain [] = Unit {0}
AllPlain (f ∷ fs) = PlainField f × AllPlain fs

tail_plain : (x : ℕ) (f : List ℕ) → PlainField (x ∷ f) → (eqb x tab ≡ false) × (eqb x newline ≡ false) × PlainField f
unfolding every parts_not
tail_plain x f h =
    let a = both (not (eqb x tab) && not (eqb x newline)) (every parts_not f) h in
    let b = both (not (eqb x tab)) (not (eqb x newline)) a.0 in
    (not-true (eqb x tab) b.0, not-true (eqb x newline) b.1, a.1)

field_after : (f rest : List ℕ) → PlainField f → pieces tab (f ++ (tab ∷ rest)) ≡ f ∷ pieces tab rest
unfolding pieces
field_after [] rest h = refl
field_after (x ∷ f) rest h =
    let a = tail_plain x f h in
    rw (a.0, field_after f rest a.2)

field_last : (f : List ℕ) → PlainField f → pieces tab f ≡ f ∷ []
unfolding pieces
field_last [] h = refl
field_last (x ∷ f) h =
    let a = tail_plain x f h in
    rw (a.0, field_last f a.2)

-- Fields that are put together with tabs are the fields again.
fields_again : (f : List ℕ) (fs : List (List ℕ)) → AllPlain (f ∷ fs) → fields (joined tab (f ∷ fs)) ≡ f ∷ fs
fields_again f [] h = field_last f h.0
fields_again f (g ∷ gs) h = field_after f (joined tab (g ∷ gs)) h.0 ∙ ap (λ (r : List (List ℕ)). f ∷ r) (fields_again g gs h.1)

-- no newline stands in a field, nor between fields
abbrev OneLine : List ℕ → Type 0
OneLine l = every (λ x. not (eqb x newline)) l ≡ true

field_one_line : (f rest : List ℕ) → PlainField f → OneLine rest → OneLine (f ++ rest)
unfolding every
field_one_line [] rest h k = k
field_one_line (x ∷ f) rest h k =
    let a = tail_plain x f h in
    rw a.1 (field_one_line f rest a.2 k)

fields_one_line : (f : List ℕ) (fs : List (List ℕ)) → AllPlain (f ∷ fs) → OneLine (joined tab (f ∷ fs))
unfolding every
fields_one_line f [] h = rw append-nil at (field_one_line f [] h.0 refl)
fields_one_line f (g ∷ gs) h = field_one_line f (tab ∷ joined tab (g ∷ gs)) h.0 (fields_one_line g gs h.1)

line_text : (l rest : List ℕ) → OneLine l → lines (l ++ (newline ∷ rest)) ≡ shut l ∷ lines rest
unfolding lines every
line_text [] rest h = refl
line_text (x ∷ l) rest h =
    let a = both (not (eqb x newline)) (every (λ y. not (eqb y newline)) l) h in
    rw (not-true (eqb x newline) a.0, line_text l rest a.1)

line_joined : (f : List ℕ) (fs : List (List ℕ)) (rest : List ℕ) → line_of (f ∷ fs) ++ rest ≡ joined tab (f ∷ fs) ++ (newline ∷ rest)
line_joined f [] rest = append_assoc f (newline ∷ []) rest
line_joined f (g ∷ gs) rest =
    append_assoc f (tab ∷ line_of (g ∷ gs)) rest ∙ ap (λ (l : List ℕ). f ++ (tab ∷ l)) (line_joined g gs rest)
    ∙ sym (append_assoc f (tab ∷ joined tab (g ∷ gs)) (newline ∷ rest))

-- A line of fields is one line, and the lines after it are those of what follows.
line_after : (f : List ℕ) (fs : List (List ℕ)) (rest : List ℕ) → AllPlain (f ∷ fs) → lines (line_of (f ∷ fs) ++ rest) ≡ shut (joined tab (f ∷ fs)) ∷ lines rest
line_after f fs rest h = ap lines (line_joined f fs rest) ∙ line_text (joined tab (f ∷ fs)) rest (fields_one_line f fs h)

-- ## What the fields are made of

plain_append : (a b : List ℕ) → PlainField a → PlainField b → PlainField (a ++ b)
unfolding every
plain_append [] b h k = k
plain_append (x ∷ a) b h k =
    let p = both (parts_not x) (every parts_not a) h in
    rw p.0 (plain_append a b p.1 k)

high_plain : (x : ℕ) → parts_not (48 + x) ≡ true
unfolding parts_not
high_plain x = rw (ne_eqb (48 + x) tab (λ e. omega arith), ne_eqb (48 + x) newline (λ e. omega arith))

decimal_plain : (f n : ℕ) → PlainField (decimal_in f n)
unfolding decimal_in every
decimal_plain zero n = rw (high_plain (n % 10))
decimal_plain (suc f) n = go (ltb n 10) (decimal_plain f (n / 10))
  where
    go : (b : Bool) → PlainField (decimal_in f (n / 10)) → PlainField (cond b (numeral n ∷ []) (decimal_in f (n / 10) ++ (numeral (n % 10) ∷ [])))
    go true h = rw (high_plain n)
    go false h = plain_append (decimal_in f (n / 10)) (numeral (n % 10) ∷ []) h (rw (high_plain (n % 10)))

digit_plain : (d : ℕ) → parts_not (hex_digit d) ≡ true
unfolding hex_digit
digit_plain d = go (ltb d 10)
  where
    go : (t : Bool) → parts_not (cond t (48 + d) (55 + d)) ≡ true
    go true = high_plain d
    go false = let e : 55 + d ≡ 48 + (7 + d) = omega arith in rw e (high_plain (7 + d))

hex_plain : (bs : List ℕ) → PlainField (hex bs)
unfolding hex every
hex_plain [] = refl
hex_plain (b ∷ bs) = rw (digit_plain (b / 16), digit_plain (b % 16)) (hex_plain bs)

-- a label has no byte that parts
label_byte_plain : (x : ℕ) → label_byte x ≡ true → parts_not x ≡ true
unfolding label_byte parts_not
label_byte_plain x h = go (eqb x tab) (eqb x newline) refl refl
  where
    go : (a b : Bool) → eqb x tab ≡ a → eqb x newline ≡ b → (not a && not b) ≡ true
    go true b p q = never h (rw (eqb-true x tab p))
    go false true p q = never h (rw (eqb-true x newline q))
    go false false p q = refl

bytes_plain : (l : List ℕ) → every label_byte l ≡ true → PlainField l
unfolding every
bytes_plain [] h = refl
bytes_plain (x ∷ l) h =
    let a = both (label_byte x) (every label_byte l) h in
    rw (label_byte_plain x a.0) (bytes_plain l a.1)

label_plain : (l : List ℕ) → is_label l ≡ true → PlainField l
unfolding is_label
label_plain l h = bytes_plain l (both (among 1 most_label (length l)) (every label_byte l) h).1

kind_plain : (x : Outcome) → PlainField (kind_of x)
unfolding every parts_not
kind_plain (good f) = refl
kind_plain (quiet next) = refl
kind_plain (unfinished opening) = refl
kind_plain (faulty number next) = decimal_plain 19 number
kind_plain (refused number) = refl

main_plain : (x : Outcome) → PlainField (main_of x)
unfolding every parts_not
main_plain (good f) = hex_plain f.main
main_plain (quiet next) = refl
main_plain (unfinished opening) = refl
main_plain (faulty number next) = refl
main_plain (refused number) = refl

marked_plain : (kind : Response) (bs : List ℕ) → PlainField (marked kind bs)
unfolding every parts_not
marked_plain Without bs = refl
marked_plain Plain bs = hex_plain bs
marked_plain Checked bs = hex_plain bs

response_plain : (x : Outcome) → PlainField (response_of x)
unfolding every parts_not
response_plain (good f) = marked_plain f.kind f.response
response_plain (quiet next) = refl
response_plain (unfinished opening) = refl
response_plain (faulty number next) = refl
response_plain (refused number) = refl

-- ## The text's lines

module _ (customer vehicle : List ℕ) (c : is_label customer ≡ true) (v : is_label vehicle ≡ true) where
  line_plain : (x : Outcome) → AllPlain (customer ∷ vehicle ∷ tells_of x)
  line_plain x = (label_plain customer c, (label_plain vehicle v, (decimal_plain 19 (at_of x), (kind_plain x, (main_plain x, (response_plain x, tt))))))

  -- Each line has six fields: the customer, the vehicle, and what is told of the answer.
  pub line_fields : (x : Outcome) → fields (answer_line customer vehicle x).bytes ≡ customer ∷ vehicle ∷ tells_of x
  line_fields x = fields_again customer (vehicle ∷ tells_of x) (line_plain x)

  -- Read as hex, the main column of a frame's line is its main part ..
  pub main_column : (f : Good) → hex_spelt (get_or (fields (answer_line customer vehicle (good f)).bytes) 4 []) ≡ f.main
  main_column f = rw (line_fields (good f)) (hex_again f.main)

  -- .. and the response column after its mark is its response, where it has one.
  pub response_column : (f : Good) → ¬ (f.kind ≡ Without) → hex_spelt (drop 2 (get_or (fields (answer_line customer vehicle (good f)).bytes) 5 [])) ≡ f.response
  response_column f n = rw (line_fields (good f)) (go f.kind n)
    where
      go : (kind : Response) → ¬ (kind ≡ Without) → hex_spelt (drop 2 (marked kind f.response)) ≡ f.response
      go Without n = absurd (n refl)
      go Plain n = hex_again f.response
      go Checked n = hex_again f.response

  answers_lines : (xs : List Outcome) → lines (answers_text customer vehicle xs) ≡ answer_lines customer vehicle xs
  unfolding answers_text answer_text lines
  answers_lines [] = refl
  answers_lines (x ∷ xs) =
      line_after customer (vehicle ∷ tells_of x) (answers_text customer vehicle xs) (line_plain x)
      ∙ ap (λ (ls : List Line). answer_line customer vehicle x ∷ ls) (answers_lines xs)

  report_lines : (ws : List ℕ) → lines (report customer vehicle ws) ≡ header_line ∷ answer_lines customer vehicle (answers ws)
  unfolding report every parts_not
  report_lines ws =
      line_after w_customer (w_vehicle ∷ w_at ∷ w_kind ∷ w_main ∷ w_response ∷ []) (answers_text customer vehicle (answers ws)) (refl, (refl, (refl, (refl, (refl, (refl, tt))))))
      ∙ ap (λ (ls : List Line). header_line ∷ ls) (answers_lines (answers ws))

lines_count : (customer vehicle : List ℕ) (xs : List Outcome) → length (answer_lines customer vehicle xs) ≡ length xs
lines_count customer vehicle [] = refl
lines_count customer vehicle (x ∷ xs) = ap suc (lines_count customer vehicle xs)

-- The lines of the text of a good input: the header, and a line with its own customer and vehicle for each answer.
pub good_lines : (s : List ℕ) → first_bad (lines s) ≡ 0
    → lines (desk_of s) ≡ header_line ∷ answer_lines (customer_of (lines s)) (vehicle_of (lines s)) (answers (recording_of (lines s)))
good_lines s e =
    let o = good_own (lines s) e in
    ap lines (desk_good s e) ∙ report_lines (customer_of (lines s)) (vehicle_of (lines s)) o.customer o.vehicle (recording_of (lines s))

-- Each of them but the header has six fields, and the first two are this recording's own labels.
pub own_labels : (s : List ℕ) → first_bad (lines s) ≡ 0 → (x : Outcome)
    → fields (answer_line (customer_of (lines s)) (vehicle_of (lines s)) x).bytes ≡ customer_of (lines s) ∷ vehicle_of (lines s) ∷ tells_of x
own_labels s e x =
    let o = good_own (lines s) e in
    line_fields (customer_of (lines s)) (vehicle_of (lines s)) o.customer o.vehicle x

-- The text of a bad input is one line.
pub bad_lines : (s : List ℕ) → ¬ (first_bad (lines s) ≡ 0) → lines (desk_of s) ≡ shut (joined tab (w_refused ∷ decimal (first_bad (lines s)) ∷ [])) ∷ []
unfolding every parts_not lines
bad_lines s n =
    ap lines (desk_bad s n ∙ sym (append-nil (refusal (first_bad (lines s)))))
    ∙ line_after w_refused (decimal (first_bad (lines s)) ∷ []) [] (refl, (decimal_plain 19 (first_bad (lines s)), tt))

-- The most lines that a text has: the header, one for every two intervals, and one.
abbrev pub most_lines : ℕ
most_lines = 8194

-- No text has more.
pub lines_few : (s : List ℕ) → length (lines (desk_of s)) ≤ most_lines
lines_few s = go (eqb (first_bad (lines s)) 0) refl
  where
    go : (b : Bool) → eqb (first_bad (lines s)) 0 ≡ b → length (lines (desk_of s)) ≤ most_lines
    go true p =
        let e : first_bad (lines s) ≡ 0 = eqb-true (first_bad (lines s)) 0 p in
        let o = good_own (lines s) e in
        let few : 2 * length (answers (recording_of (lines s))) ≤ length (recording_of (lines s)) + 2 = answers_few (customer_of (lines s)) (vehicle_of (lines s)) (label_size (customer_of (lines s)) o.customer).1 (label_size (vehicle_of (lines s)) o.vehicle).1 (recording_of (lines s)) (recording_few (lines s)) in
        omega (arith, ap length (good_lines s e), lines_count (customer_of (lines s)) (vehicle_of (lines s)) (answers (recording_of (lines s))), recording_few (lines s))
    go false p = omega (arith, ap length (bad_lines s (eqb-false (first_bad (lines s)) 0 p)))
