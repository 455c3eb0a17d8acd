-- Definitions.
-- What the theorems on reading are stated with: what is so where an answer is given, and of which interval.
use Rattle.std.specs.Prelude.{ℕ, ◌≤◌, ◌<◌, ◌+◌, ◌*◌, ◌-◌, ◌%◌, Bool, true, false, ◌&&◌, not, List, [], ◌∷◌, ◌≡◌, length}
use Rattle.symbol.specs.declared.Symbol.TheVariants.{Noise, Break, Stuck}
use Rattle.symbol.specs.Classes.{Window}
use Rattle.frame.specs.Bits.{value}
use Rattle.frame.specs.Faults.{facts, part_bytes, checks_out, FirstFault}
use Rattle.frame.specs.Line.{Line, end_at}
use Rattle.frame.specs.Reading.{fault_at, Good, frame_at, Outcome, refused, quiet, decided, good, unfinished, faulty}
use Rattle.frame.specs.Standing.{stands, Standing}

-- k is the first of the n places from i on at which the test holds
pub record IsFirst (test : ℕ → Bool) (i n k : ℕ) : Type 0 where
  pub from : i ≤ k
  pub before : k < i + n
  pub holds : test k ≡ true
  pub none_earlier : (j : ℕ) → i ≤ j → j < k → test j ≡ false

-- the bits that make no whole byte yet
unfoldable pub left_over : List Bool → List Bool
left_over [] = []
left_over (a ∷ []) = a ∷ []
left_over (a ∷ b ∷ []) = a ∷ b ∷ []
left_over (a ∷ b ∷ c ∷ []) = a ∷ b ∷ c ∷ []
left_over (a ∷ b ∷ c ∷ d ∷ []) = a ∷ b ∷ c ∷ d ∷ []
left_over (a ∷ b ∷ c ∷ d ∷ e ∷ []) = a ∷ b ∷ c ∷ d ∷ e ∷ []
left_over (a ∷ b ∷ c ∷ d ∷ e ∷ f ∷ []) = a ∷ b ∷ c ∷ d ∷ e ∷ f ∷ []
left_over (a ∷ b ∷ c ∷ d ∷ e ∷ f ∷ g ∷ []) = a ∷ b ∷ c ∷ d ∷ e ∷ f ∷ g ∷ []
left_over (a ∷ b ∷ c ∷ d ∷ e ∷ f ∷ g ∷ h ∷ rest) = left_over rest

-- a number with the bits after it: a partial byte is kept as its bits after a leading 1
unfoldable pub shifted_in : ℕ → List Bool → ℕ
shifted_in n [] = n
shifted_in n (b ∷ bits) = shifted_in (n * 2 + value b) bits

-- the widths that are wrong by themselves, and the number of each: 11 noise, 13 a break, 14 a stuck line
pub data WrongWidth (active : Bool) (w : ℕ) : ℕ → Type 0 where
  is_noise : Window active Noise w → WrongWidth active w 11
  is_break : Window active Break w → WrongWidth active w 13
  is_stuck : Window active Stuck w → WrongWidth active w 14

-- No interval after the opening o and before k is at fault, and none of them is an end.
pub record Undecided (limit : ℕ) (l : Line) (o k : ℕ) : Type 0 where
  pub no_fault : (j : ℕ) → o < j → j < k → fault_at limit l o j ≡ 0
  pub no_end : (j : ℕ) → o < j → j < k → end_at l j ≡ false

-- k lies after the opening o and in the recording, and no interval before it decides the frame.
pub record Earliest (limit : ℕ) (l : Line) (o k : ℕ) : Type 0 where
  pub later : o < k
  pub inside : k < l.count
  pub before : Undecided limit l o k

-- What is known of a good frame: its closing end is the earliest interval that decides, and its values stand before it.
pub record GoodAt (limit : ℕ) (l : Line) (o : ℕ) (f : Good) : Type 0 where
  pub earliest : Earliest limit l o f.next
  pub no_fault : fault_at limit l o f.next ≡ 0
  pub end : end_at l f.next ≡ true
  pub frame_is : f ≡ frame_at l o f.next

-- The opening of reading from p is at o, and at least one interval follows it.
pub record Opens (l : Line) (p o : ℕ) : Type 0 where
  pub from : p ≤ o
  pub end : end_at l o ≡ true
  pub none_before : (j : ℕ) → p ≤ j → j < o → end_at l j ≡ false
  pub followed : o + 1 < l.count

-- what a call comes to, with what has to be so of its arguments
pub data ReadCase (limit : ℕ) (l : Line) (p lent : ℕ) : Outcome → Type 0 where
  is_past : l.count < p → ReadCase limit l p lent (refused 31)
  is_short : p ≤ l.count → lent < limit → ReadCase limit l p lent (refused 32)
  is_quiet : p ≤ l.count → limit ≤ lent → ReadCase limit l p lent (quiet p)
  is_opened : {o : ℕ} → p ≤ l.count → limit ≤ lent → Opens l p o → ReadCase limit l p lent (decided limit l o)

-- the answer is a frame or a fault, from whose next position one reads on
abbrev pub goes_on : Outcome → Bool
goes_on (good f) = true
goes_on (quiet next) = false
goes_on (unfinished opening) = false
goes_on (faulty number next) = true
goes_on (refused number) = false

-- 0: an end closes the frame that opens. It is the earliest interval that decides, and at no fault.
pub record Closes (limit : ℕ) (l : Line) (p lent : ℕ) : Type 0 where
  pub enough : limit ≤ lent
  pub opening : ℕ
  pub opens : Opens l p opening
  pub closing : ℕ
  pub earliest : Earliest limit l opening closing
  pub no_fault : fault_at limit l opening closing ≡ 0
  pub end : end_at l closing ≡ true

-- 1: "quiet: no opening, or no interval after it", where neither 31 nor 32 applies
pub record Silent (limit : ℕ) (l : Line) (p lent : ℕ) : Type 0 where
  pub inside : p ≤ l.count
  pub enough : limit ≤ lent
  pub none_opens : (o : ℕ) → ¬ (Opens l p o)

-- 2: "at least one interval follows the opening, none is at fault, none closes the frame"
pub record Unclosed (limit : ℕ) (l : Line) (p lent o : ℕ) : Type 0 where
  pub enough : limit ≤ lent
  pub opens : Opens l p o
  pub none_decides : Undecided limit l o l.count

-- k is the earliest interval that decides the frame opened at o; there rule n holds, and no rule that is judged before it.
pub record AtFault (limit : ℕ) (l : Line) (o n k : ℕ) : Type 0 where
  pub earliest : Earliest limit l o k
  pub first_rule_law : FirstFault n limit (stands l o k) (l.shows k)

-- Reading from p, with bytes enough lent: the frame that opens there is at fault at k, by rule n.
pub record ReadsFault (limit : ℕ) (l : Line) (p lent n k : ℕ) : Type 0 where
  pub enough : limit ≤ lent
  pub opening : ℕ
  pub opens : Opens l p opening
  pub at_fault : AtFault limit l opening n k

-- What has to be so for reading to answer the number n: the rows of the table "What reading answers".
pub data Answers (limit : ℕ) (l : Line) (p lent : ℕ) : ℕ → Type 0 where
  is_closed : Closes limit l p lent → Answers limit l p lent 0
  is_silent : Silent limit l p lent → Answers limit l p lent 1
  is_unclosed : {o : ℕ} → Unclosed limit l p lent o → Answers limit l p lent 2
  is_at_fault : {n k : ℕ} → 10 < n → ReadsFault limit l p lent n k → Answers limit l p lent n

-- The place k, counted from o, as it is counted from o'.
abbrev pub shifted : (o o' k : ℕ) → ℕ
shifted o o' k = o' + (k - o)

-- An outcome of reading from p' where the opening stands at o', from one where it stands at o.
abbrev pub moved_outcome : (p' o o' : ℕ) → Outcome → Outcome
moved_outcome p' o o' (good f) =
    good (record { main = f.main; response = f.response; kind = f.kind; opening = shifted o o' f.opening; next = shifted o o' f.next })
moved_outcome p' o o' (quiet next) = quiet p'
moved_outcome p' o o' (unfinished opening) = unfinished (shifted o o' opening)
moved_outcome p' o o' (faulty number next) = faulty number (shifted o o' next)
moved_outcome p' o o' (refused number) = refused number

-- The bits of a part are whole bytes, and enough of them.
pub record Complete (st : Standing) : Type 0 where
  pub whole_bytes : length (facts st).part % 8 ≡ 0
  pub enough : (facts st).fewest ≤ length (part_bytes st)

-- They end with the right check byte, where the part has one.
abbrev pub ChecksRight : Standing → Type 0
ChecksRight st = ((facts st).has_check && not (checks_out (part_bytes st))) ≡ false

-- the same frame, opened at a place of its own
abbrev pub put_at : Good → ℕ → Good
put_at f o = record { main = f.main; response = f.response; kind = f.kind; opening = o; next = o + (f.next - f.opening) }
