-- Definitions.
-- The faults of document 01's table "What reading answers": each row as a rule, in the order in which they are judged at one
-- interval, and the fault of an interval by the first that holds.
use Rattle.std.specs.Prelude.{ℕ, ◌-◌, ◌%◌, ◌≡◌, Bool, true, false, cond, List, [], ◌∷◌, ◌++◌, ◌⊎◌, eqb, length, get_or, take}
use Rattle.laws.specs.Meant.{Test, both, is_not, set, equals, below}
use Rattle.laws.specs.Rules.{Rule, rule, first_rule, FirstToHold}
use Rattle.checkbyte.specs.Register.{check_of}
use Rattle.frame.specs.declared.Response.{Response}
use Rattle.frame.specs.declared.Response.TheVariants.{Without, Plain, Checked}
use Rattle.frame.specs.Bits.{bytes}
use Rattle.frame.specs.Signs.{Sign, wrong_of, is_eod, is_bit, is_sof, shuts}
use Rattle.frame.specs.Standing.{plain, checked, Standing, at_sof, in_main, at_normalization, in_response, counted}

-- "All bytes together are at most 12.": the limit of bytes in a frame of document 01
abbrev pub most_bytes : ℕ
most_bytes = 12

-- What the rows of the table ask of an interval's standing.
pub record Facts : Type 0 where
  pub sof_place : Bool  -- it is the SOF's place
  pub in_part : Bool  -- it is the place of a bit of a byte, or of the EOD or end after them
  pub responding : Bool  -- its part is the response
  pub part : List Bool  -- the bits of its part so far
  pub fewest : ℕ  -- the fewest bytes that its part may have
  pub has_check : Bool  -- its part ends with a check byte
  pub main : List Bool  -- the bits of the main part so far
  pub response : List Bool  -- the bits of the response so far
  pub answered : Response  -- the response so far: none, plain or checked

-- "The main part has at least 2 bytes with its check byte; a plain response at least 1, a checked one at least 2 with its own."
abbrev pub facts : Standing → Facts
facts at_sof = record { sof_place = true; in_part = false; responding = false; part = []; fewest = 0; has_check = false; main = []; response = []; answered = Without }
facts (in_main m) = record { sof_place = false; in_part = true; responding = false; part = m; fewest = 2; has_check = true; main = m; response = []; answered = Without }
facts (at_normalization m) = record { sof_place = false; in_part = false; responding = false; part = []; fewest = 0; has_check = false; main = m; response = []; answered = Without }
facts (in_response plain m r) = record { sof_place = false; in_part = true; responding = true; part = r; fewest = 1; has_check = false; main = m; response = r; answered = Plain }
facts (in_response checked m r) = record { sof_place = false; in_part = true; responding = true; part = r; fewest = 2; has_check = true; main = m; response = r; answered = Checked }

-- the bytes of each part so far
abbrev pub main_bytes : Standing → List ℕ
main_bytes st = bytes (facts st).main

-- those of the response
abbrev pub response_bytes : Standing → List ℕ
response_bytes st = bytes (facts st).response

-- those of the part in which the interval stands
abbrev pub part_bytes : Standing → List ℕ
part_bytes st = bytes (facts st).part

-- the last byte is the check byte of those before it
unfoldable pub checks_out : List ℕ → Bool
checks_out bs = eqb (get_or bs (length bs - 1) 0) (check_of (take (length bs - 1) bs))

-- a whole number of bytes
abbrev pub whole : List Bool → Bool
whole bits = eqb (length bits % 8) 0

-- ## The rows as rules

-- 11, 14, 13: the interval is wrong by itself, by what it shows
abbrev pub wrong_itself : Sign → Test
wrong_itself s = is_not (equals (wrong_of s) 0)

module _ (limit : ℕ) (st : Standing) (s : Sign) where
  -- the standing with the bit that the interval completes
  abbrev then : Standing
  then = counted st s

  -- 12: "first active interval is 35..163", which is the width of a bit
  abbrev pub bit_for_sof : Test
  bit_for_sof = both (set (facts st).sof_place) (set (is_bit s))

  -- 15: "active SOF width after the SOF, also in place of a normalization bit"
  abbrev pub sof_again : Test
  sof_again = both (is_not (set (facts st).sof_place)) (set (is_sof s))

  -- 16: "EOD or end after 1 to 7 bits of a byte"
  abbrev pub byte_split : Test
  byte_split = both (set (shuts s)) (is_not (equals (length (facts then).part % 8) 0))

  -- 17: "EOD or end with too few bytes in that part"
  abbrev pub bytes_few : Test
  bytes_few = both (set (shuts s)) (below (length (part_bytes then)) (facts then).fewest)

  -- 18: "check byte wrong, either part, judged at its EOD or end"
  abbrev pub check_wrong : Test
  check_wrong = both (set (shuts s)) (both (set (facts then).has_check) (is_not (set (checks_out (part_bytes then)))))

  -- 19: "EOD after a response that passes 16, 17 and 18"
  abbrev pub eod_after_response : Test
  eod_after_response = both (set (is_eod s)) (set (facts then).responding)

  -- 20: "first bit of a thirteenth byte", where a frame has at most twelve
  abbrev pub bit_past_limit : Test
  bit_past_limit = both (set (is_bit s)) (both (set (facts st).in_part) (equals (length (main_bytes st ++ response_bytes st)) limit))

-- "At one interval the order is 11, 14, 13, 12, 15, 16, 17, 18, 19, 20": the rules of an interval that is not wrong by itself
abbrev pub fault_rules : (limit : ℕ) → Standing → Sign → List Rule
fault_rules limit st s =
    rule 12 (bit_for_sof limit st s)
    ∷ rule 15 (sof_again limit st s)
    ∷ rule 16 (byte_split limit st s)
    ∷ rule 17 (bytes_few limit st s)
    ∷ rule 18 (check_wrong limit st s)
    ∷ rule 19 (eod_after_response limit st s)
    ∷ rule 20 (bit_past_limit limit st s)
    ∷ []

-- The fault of an interval that shows s and stands at st, where a frame has at most `limit` bytes, and 0 where it is at none:
-- what is wrong by itself comes first. An EOD or end is judged with the bit that it completes, if any. (Row 20 holds at each
-- bit after the last whole byte that a frame may have; the earliest interval decides, so that it is told of the first bit of
-- the byte after it.)
unfoldable pub fault : (limit : ℕ) → Standing → Sign → ℕ
fault limit st s = cond (wrong_itself s).says (wrong_of s) (first_rule (fault_rules limit st s))

-- The interval is at fault n: it is wrong by itself, with that number; or it is not, and rule n is the first that holds.
abbrev pub FirstFault : (n limit : ℕ) → Standing → Sign → Type 0
FirstFault n limit st s = (wrong_of s ≡ n) ⊎ ((wrong_of s ≡ 0) × FirstToHold n (fault_rules limit st s))
