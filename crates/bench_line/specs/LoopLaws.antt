-- Laws.
-- The loops over the senders: what they have come to, and one place more.
use Rattle.std.specs.Prelude.{ℕ, ◌+◌, ◌-◌, ◌≤◌, ◌<◌, min, max, ◌≡◌, refl, Bool, true, false, not, List, [], ◌∷◌, ◌++◌, map, length, take, drop, get_or, set, replicate, Option, None, Some}
use Rattle.std.proofs.Common.{sym, ap, ap₂, ◌∙◌, arith, append_assoc, append-nil, take_all}
use Rattle.std.proofs.lemmas.List.{map-append, length-set, map_more, take_more_set, drop-set-lt, drop_more, drop-replicate, length-map, length-take-le}
use Rattle.std.proofs.Math.Seq.{set-append_seam}
use Rattle.bench.specs.Course.{Pulse, Seat, out, on, asks, asked, widths_of, shortest, longest, heard}
use Rattle.bench_line.specs.declared.sender.Sender.{Sender}
use Rattle.bench_lane.specs.declared.Ask.{Ask}
use Rattle.bench_lane.specs.Lane.{lost_by, taken_in}
use Rattle.bench_line.specs.Lanes.{seat_at, seats_at, ask_at, asked_by}
use Rattle.bench_line.specs.SeatLaws.{ask_for, ask_is, heard_is}

-- ## What places ask together, one place more

shortest_more : (v : ℕ) (ws : List ℕ) (w : ℕ) → min w (shortest (v ∷ ws)) ≡ shortest ((v ∷ ws) ++ (w ∷ []))
unfolding shortest
shortest_more v [] w = omega arith
shortest_more v (u ∷ ws) w = omega (arith, shortest_more u ws w)

longest_more : (ws : List ℕ) (w : ℕ) → max w (longest ws) ≡ longest (ws ++ (w ∷ []))
unfolding longest
longest_more [] w = refl
longest_more (v ∷ ws) w = omega (arith, longest_more ws w)

taken_more : (active : Bool) (ps : List Pulse) (s : Seat) → taken_in active (asked_by active ps) (ask_for s) ≡ asked_by active (ps ++ asks s)
unfolding shortest longest
taken_more active ps (out f) = rw (append-nil ps)
taken_more active ps (on []) = rw (append-nil ps)
taken_more false [] (on (p ∷ qs)) = refl
taken_more true [] (on (p ∷ qs)) = let e : p.width ≡ max p.width 0 = omega arith in ap Some e
taken_more false (q ∷ ps) (on (p ∷ qs)) =
    ap Some (shortest_more q.width (widths_of ps) p.width ∙ ap shortest (sym (map-append (λ (x : Pulse). x.width) (q ∷ ps) (p ∷ []))))
taken_more true (q ∷ ps) (on (p ∷ qs)) =
    ap Some (longest_more (widths_of (q ∷ ps)) p.width ∙ ap longest (sym (map-append (λ (x : Pulse). x.width) (q ∷ ps) (p ∷ []))))

asked_more : (seats : List Seat) (s : Seat) → asked (seats ++ (s ∷ [])) ≡ asked seats ++ asks s
unfolding asked
asked_more [] s = append-nil (asks s)
asked_more (t ∷ seats) s = rw (asked_more seats s) (sym (append_assoc (asks t) (asked seats) (asks s)))

one_more : (active : Bool) (seats : List Seat) (s : Seat) → taken_in active (asked_by active (asked seats)) (ask_for s) ≡ asked_by active (asked (seats ++ (s ∷ [])))
one_more active seats s = taken_more active (asked seats) s ∙ ap (asked_by active) (sym (asked_more seats s))

-- The places before i of a list of senders ask this together; one place more.
pub ask_more : (active : Bool) (j : ℕ) (ls : List Sender) (i : ℕ) (v : Option ℕ) → v ≡ asked_by active (asked (seats_at active j (take i ls)))
    → i < length ls → (l : Sender) → l ≡ get_or ls i l → (ask : Ask) → ask ≡ ask_at active j l → (u : Option ℕ) → u ≡ taken_in active v ask
    → u ≡ asked_by active (asked (seats_at active j (take (i + 1) ls)))
ask_more active j ls i v e h l q ask f u g =
    g ∙ ap₂ (taken_in active) e (f ∙ ask_is l active j) ∙ one_more active (seats_at active j (take i ls)) (seat_at active j l)
    ∙ ap (λ (x : Seat). asked_by active (asked (seats_at active j (take i ls) ++ (x ∷ [])))) (ap (seat_at active j) q)
    ∙ ap (λ (xs : List Seat). asked_by active (asked xs)) (sym (map_more (seat_at active j) ls i l h))

-- ## What places hear, one place more

-- the places before i have heard bit j, those from i on have not, and this is what the former ask at the bit after it
pub record Hearing (active : Bool) (j : ℕ) (one : Bool) (first now : List Sender) (i : ℕ) (v : Option ℕ) : Type 0 where
  pub heard_so : seats_at (not active) (j + 1) (take i now) ≡ map (heard (j + 1) one) (seats_at active j (take i first))
  pub ahead : drop i now ≡ drop i first
  pub whole : length now ≡ length first
  pub asks_so : v ≡ asked_by (not active) (asked (seats_at (not active) (j + 1) (take i now)))

-- Before the first place none has heard it.
pub hear_start : (active : Bool) (j : ℕ) (one : Bool) (first : List Sender) → Hearing active j one first first 0 None
unfolding asked
hear_start active j one first = record { heard_so = refl; ahead = refl; whole = refl; asks_so = refl }

module _ {active : Bool} {j : ℕ} {one : Bool} {first now : List Sender} {i : ℕ} {v : Option ℕ} (s : Hearing active j one first now i v) where
  -- One place more hears it, and asks.
  pub hear_more : i < length now → (l : Sender) → l ≡ get_or now i l → (ask : Ask) → ask ≡ ask_at active j l
      → (y : Sender) → y.lane ≡ record l.lane { lost = lost_by (j + 1) one ask l.lane.lost } → y.frame ≡ l.frame → (next : Ask) → next ≡ ask_at (not active) (j + 1) y
      → (u : Option ℕ) → u ≡ taken_in (not active) v next → Hearing active j one first (set now i y) (i + 1) u
  hear_more h l q ask a y e z next f u g =
      let k : i < length first = omega (arith, s.whole) in
      let c : get_or now i l ∷ drop (i + 1) now ≡ get_or first i l ∷ drop (i + 1) first = sym (drop_more now i l h) ∙ s.ahead ∙ drop_more first i l k in
      let same : l ≡ get_or first i l = cc in
      let rest : drop (i + 1) now ≡ drop (i + 1) first = cc in
      record {
        heard_so =
            seats h y
            ∙ ap₂ (λ (xs : List Seat) (x : Seat). xs ++ (x ∷ [])) s.heard_so
            (heard_is l active j one y (e ∙ ap (λ (x : Ask). record l.lane { lost = lost_by (j + 1) one x l.lane.lost }) a) z
            ∙ ap (λ (x : Sender). heard (j + 1) one (seat_at active j x)) same)
            ∙ sym (map-append (heard (j + 1) one) (seats_at active j (take i first)) (seat_at active j (get_or first i l) ∷ []))
            ∙ ap (map (heard (j + 1) one)) (sym (map_more (seat_at active j) first i l k));
        ahead = drop-set-lt (i + 1) now i y (omega arith) ∙ rest;
        whole = length-set now i y ∙ s.whole;
        asks_so =
            g ∙ ap₂ (taken_in (not active)) s.asks_so (f ∙ ask_is y (not active) (j + 1))
            ∙ one_more (not active) (seats_at (not active) (j + 1) (take i now)) (seat_at (not active) (j + 1) y)
            ∙ ap (λ (xs : List Seat). asked_by (not active) (asked xs)) (sym (seats h y));
      }
    where
      seats : i < length now → (y : Sender)
          → seats_at (not active) (j + 1) (take (i + 1) (set now i y)) ≡ seats_at (not active) (j + 1) (take i now) ++ (seat_at (not active) (j + 1) y ∷ [])
      seats h y = ap (seats_at (not active) (j + 1)) (take_more_set now i y h) ∙ map-append (seat_at (not active) (j + 1)) (take i now) (y ∷ [])

  -- After the last place all have.
  pub hear_all : length first ≤ i → seats_at (not active) (j + 1) now ≡ map (heard (j + 1) one) (seats_at active j first)
  hear_all h =
      ap (seats_at (not active) (j + 1)) (sym (take_all i now (omega (arith, s.whole)))) ∙ s.heard_so
      ∙ ap (λ (ls : List Sender). map (heard (j + 1) one) (seats_at active j ls)) (take_all i first h)

  -- And this is what they ask then.
  pub asks_all : length first ≤ i → v ≡ asked_by (not active) (asked (seats_at (not active) (j + 1) now))
  asks_all h = s.asks_so ∙ ap (λ (ls : List Sender). asked_by (not active) (asked (seats_at (not active) (j + 1) ls))) (take_all i now (omega (arith, s.whole)))

-- ## An array that is filled from a list

-- the array ys with f of the first i of xs in its first places
abbrev pub filled_with : {A B : Type 0} (f : A → B) → List A → List B → ℕ → List B
filled_with f xs ys i = map f (take i xs) ++ drop i ys

-- one place more
pub fill_one : {A B : Type 0} (f : A → B) (xs : List A) (ys now : List B) (i : ℕ) → now ≡ filled_with f xs ys i
    → i < length xs → i < length ys → (x : A) → x ≡ get_or xs i x → (y : B) → y ≡ f x
    → set now i y ≡ filled_with f xs ys (i + 1)
fill_one {A} {B} f xs ys now i m h k x q y e =
    let n : length (map f (take i xs)) ≡ i = length-map (take i xs) f ∙ length-take-le i xs (omega arith) in
    ap (λ (r : List B). set r i y) m
    ∙ ap (λ (r : List B). set (map f (take i xs) ++ r) i y) (drop_more ys i y k)
    ∙ ap (λ (m : ℕ). set (map f (take i xs) ++ (get_or ys i y ∷ drop (i + 1) ys)) m y) (sym n)
    ∙ set-append_seam (map f (take i xs)) (get_or ys i y) (drop (i + 1) ys) y
    ∙ ap (λ (z : B). map f (take i xs) ++ (z ∷ drop (i + 1) ys)) (e ∙ ap f q)
    ∙ sym (append_assoc (map f (take i xs)) (f (get_or xs i x) ∷ []) (drop (i + 1) ys))
    ∙ ap (λ (r : List B). r ++ drop (i + 1) ys) (sym (map_more f xs i x h))

-- all of them, over n times the same
pub fill_all : {A B : Type 0} (f : A → B) (xs : List A) (n : ℕ) (y : B) (now : List B) (i : ℕ) → now ≡ filled_with f xs (replicate n y) i
    → length xs ≤ i → i ≤ length xs
    → now ≡ map f xs ++ replicate (n - length xs) y
fill_all {A} {B} f xs n y now i m lo hi =
    let e : i ≡ length xs = omega arith in
    m ∙ ap₂ (λ (r : List A) (t : List B). map f r ++ t) (take_all i xs lo) (drop-replicate i n y ∙ ap (λ (k : ℕ). replicate (n - k) y) e)

-- One place more of a list of which g gives what f gives of another.
pub map_one : {A B C : Type 0} (f : A → C) (g : B → C) (xs : List A) (ys : List B) (i : ℕ) → map g (take i ys) ≡ map f (take i xs)
    → i < length xs → i < length ys → (d : A) (y : B)
    → g y ≡ f (get_or xs i d) → map g (take (i + 1) (set ys i y)) ≡ map f (take (i + 1) xs)
map_one {A} {B} {C} f g xs ys i m h k d y e =
    ap (map g) (take_more_set ys i y k) ∙ map-append g (take i ys) (y ∷ [])
    ∙ ap₂ (λ (r : List C) (z : C). r ++ (z ∷ [])) m e
    ∙ sym (map_more f xs i d h)
