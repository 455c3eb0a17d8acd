-- Laws.
-- The loop over the bits of a round: what is written and what is still to come make up the whole.
use Rattle.std.specs.Prelude.{ℕ, zero, suc, ◌+◌, ◌-◌, ◌≤◌, ◌<◌, ◌≡◌, refl, Bool, true, false, not, List, [], ◌∷◌, ◌++◌, map, length, take, drop, set, None, Some}
use Rattle.std.proofs.Common.{get_or, sym, ap, ap₂, ◌∙◌, subst, arith, add-one, take_all, length-set, length-drop}
use Rattle.std.proofs.lemmas.List.{take_more, drop_more}
use Rattle.std.proofs.lemmas.List.Edits.{sets}
use Rattle.std.proofs.lemmas.Option.{none-some, same_Some}
use Rattle.std.proofs.Math.Seq.{length-take-le}
use Rattle.laws.specs.Lent.{sets_then}
use Rattle.frame.specs.Writing.{most_words}
use Rattle.bench.specs.Course.{Pulse, Seat, asked, widths_of, lasts, on_line, heard, Course, over, bit_then, nobody_asks, most_bits, play, fared_at}
use Rattle.bench_line.specs.declared.sender.Sender.{Sender}
use Rattle.bench_line.specs.Lanes.{seats_at, asked_by, fared_of}
use Rattle.bench_line.specs.SeatLaws.{fares_are}

-- the bits of a round over these senders
abbrev pub course_of : List Sender → Course
course_of ls = play most_bits false 1 (seats_at false 0 ls)

-- What sending them comes to: their widths after the opening and the SOF, no other word changed, and how each place fared.
pub record SendsBits (ls ls' : List Sender) (old new : List ℕ) (count : ℕ) : Type 0 where
  pub counts_them : count ≡ length (course_of ls).widths
  pub few : count ≤ most_bits
  pub writes_them : new ≡ sets old 2 (course_of ls).widths
  pub fares_so : map fared_of ls' ≡ map fared_at (course_of ls).seats

-- what is still to come at bit j
abbrev left_of : List Sender → Bool → ℕ → Course
left_of ls active j = play (most_bits - j) active (suc j) (seats_at active j ls)

-- before bit j, of a round that these senders began
pub record Sending (first : List Sender) (old : List ℕ) (ls : List Sender) (active : Bool) (j : ℕ) (new : List ℕ) : Type 0 where
  pub inside : j ≤ most_bits
  pub reached : j ≤ length (course_of first).widths
  pub space : most_words ≤ length old
  pub long : length new ≡ length old
  pub written : new ≡ sets old 2 (take j (course_of first).widths)
  pub to_come : left_of ls active j ≡ record { widths = drop j (course_of first).widths; seats = (course_of first).seats }

-- Before the first bit nothing is sent.
pub sending_start : (ls : List Sender) (old : List ℕ) → most_words ≤ length old → Sending ls old ls false 0 old
sending_start ls old h = record { inside = omega arith; reached = omega arith; space = h; long = refl; written = refl; to_come = refl }

play_none : (active : Bool) (k : ℕ) (seats : List Seat) → play 0 active k seats ≡ over seats
unfolding play
play_none active k seats = refl

play_over : (n : ℕ) (active : Bool) (k : ℕ) (seats : List Seat) → nobody_asks (asked seats) ≡ true → play n active k seats ≡ over seats
unfolding play
play_over zero active k seats e = refl
play_over (suc n) active k seats e = rw e

play_more : (n : ℕ) (active : Bool) (k : ℕ) (seats : List Seat) (w : ℕ) → nobody_asks (asked seats) ≡ false → w ≡ lasts active (widths_of (asked seats))
    → play (suc n) active k seats ≡ bit_then w (play n (not active) (suc k) (map (heard k (on_line active w)) seats))
unfolding play
play_more n active k seats w e q = rw (e, ← q)

-- a list that is empty past place j, or has one element there
drop_none : (l : List ℕ) (j : ℕ) → drop j l ≡ [] → length l ≤ j
drop_none l j e = omega (arith, ap length e, length-drop j l)

drop_one : (l : List ℕ) (j w : ℕ) (r : List ℕ) → drop j l ≡ w ∷ r → (take (j + 1) l ≡ take j l ++ (w ∷ [])) × (drop (j + 1) l ≡ r) × (j < length l)
drop_one l j w r e =
    let h : j < length l = omega (arith, ap length e, length-drop j l) in
    let c : get_or l j w ∷ drop (j + 1) l ≡ w ∷ r = sym (drop_more l j w h) ∙ e in
    let x : get_or l j w ≡ w = cc in
    (take_more l j w h ∙ ap (λ (v : ℕ). take j l ++ (v ∷ [])) x, cc, h)

-- where nobody asks, and where somebody does
none_asks : (active : Bool) (ps : List Pulse) → None ≡ asked_by active ps → nobody_asks ps ≡ true
none_asks active [] e = refl
none_asks active (p ∷ ps) e = absurd (none-some _ e)

some_asks : (active : Bool) (ps : List Pulse) (w : ℕ) → Some w ≡ asked_by active ps → (nobody_asks ps ≡ false) × (w ≡ lasts active (widths_of ps))
some_asks active [] w e = absurd (none-some w (sym e))
some_asks active (p ∷ ps) w e = (refl, same_Some _ _ e)

module _ {first : List Sender} {old : List ℕ} {ls : List Sender} {active : Bool} {j : ℕ} {new : List ℕ} (s : Sending first old ls active j new) where
  all : List ℕ
  all = (course_of first).widths

  -- nothing is left
  ends : left_of ls active j ≡ over (seats_at active j ls) → SendsBits first ls old new j
  unfolding all
  ends e =
      let d : [] ≡ drop j all = ap (λ (c : Course). c.widths) (sym e ∙ s.to_come) in
      let n : length all ≤ j = drop_none all j (sym d) in
      record {
        counts_them = omega (arith, s.reached);
        few = s.inside;
        writes_them = s.written ∙ ap (sets old 2) (take_all j all n);
        fares_so = sym (fares_are active j ls) ∙ ap (λ (c : Course). map fared_at c.seats) (sym e ∙ s.to_come);
      }

  -- After 96 bits all is sent.
  pub sending_last : most_bits ≤ j → SendsBits first ls old new most_bits
  sending_last h =
      let z : most_bits - j ≡ 0 = omega arith in
      let q : j ≡ most_bits = omega (arith, s.inside) in
      subst (SendsBits first ls old new) q
      (ends (ap (λ (n : ℕ). play n active (suc j) (seats_at active j ls)) z ∙ play_none active (suc j) (seats_at active j ls)))

  -- Where nobody asks for a bit all is sent.
  pub sending_over : None ≡ asked_by active (asked (seats_at active j ls)) → SendsBits first ls old new j
  sending_over e = ends (play_over (most_bits - j) active (suc j) (seats_at active j ls) (none_asks active (asked (seats_at active j ls)) e))

  -- one bit more
  module _ (h : j < most_bits) (w : ℕ) (e : Some w ≡ asked_by active (asked (seats_at active j ls)))
      (ls' : List Sender) (then : seats_at (not active) (j + 1) ls' ≡ map (heard (j + 1) (on_line active w)) (seats_at active j ls)) where
    goes_on : left_of ls active j ≡ bit_then w (left_of ls' (not active) (j + 1))
    goes_on =
        let seats : List Seat = seats_at active j ls in
        let z : most_bits - j ≡ suc (most_bits - (j + 1)) = omega arith in
        let a = some_asks active (asked seats) w e in
        ap (λ (k : ℕ). play k active (suc j) seats) z
        ∙ play_more (most_bits - (j + 1)) active (suc j) seats w a.0 a.1
        ∙ ap (λ (k : ℕ). bit_then w (play (most_bits - (j + 1)) (not active) (suc k) (map (heard k (on_line active w)) seats))) (sym (add-one j))
        ∙ ap (λ (x : List Seat). bit_then w (play (most_bits - (j + 1)) (not active) (suc (j + 1)) x)) (sym then)

    -- the words then hold the bit, and the same is left to come
    pub sending_more : Sending first old ls' (not active) (j + 1) (set new (2 + j) w)
    unfolding all
    sending_more =
        let left : Course = left_of ls' (not active) (j + 1) in
        let c : bit_then w left ≡ record { widths = drop j all; seats = (course_of first).seats } = sym goes_on ∙ s.to_come in
        let d = drop_one all j w left.widths (sym (ap (λ (x : Course). x.widths) c)) in
        let k : 2 + j ≡ 2 + length (take j all) = omega (arith, length-take-le j all s.reached) in
        record {
          inside = omega arith;
          reached = omega (arith, d.2);
          space = s.space;
          long = length-set new (2 + j) w ∙ s.long;
          written =
              ap (λ (r : List ℕ). set r (2 + j) w) s.written
              ∙ ap (λ (x : ℕ). set (sets old 2 (take j all)) x w) k
              ∙ sets_then old 2 (take j all) (w ∷ [])
              ∙ ap (sets old 2) (sym d.0);
          to_come =
              ap₂ (λ (ws : List ℕ) (x : List Seat). record { widths = ws; seats = x }) (sym d.1) (ap (λ (x : Course). x.seats) c);
        }
