-- Laws.
-- The words of a frame: how many they are, how they join, and when a message is turned away.
use Prim.Native.Nat.{ℕ, suc, ◌+◌, ◌*◌, ◌-◌, ◌/◌, ◌≤◌, ◌<◌}
use Rattle.std.specs.Prelude.{◌≡◌, refl, true, false, ◌||◌, List, [], ◌∷◌, ◌++◌, eqb, leb, get_or, take}
use Rattle.std.proofs.Common.{ap, ◌∙◌, add-one, arith, length-append, take-suc}
use Rattle.std.proofs.Math.Dec.{ltb, leb-suc-suc}
use Rattle.std.proofs.Math.ListN.{length}
use borrow.Author.Tests.{eq-eqb, ne_eqb, lt-ltb, le-ltb, ltb-false}
use Rattle.laws.specs.Tests.{or_right, ltb_same, neither}
use Rattle.symbol.specs.declared.Clock.{Clock}
use Rattle.symbol.specs.Sending.{bit_width, end_width}
use Rattle.checkbyte.specs.Register.{check_of, with_check}
use Rattle.frame.specs.declared.Response.{Response}
use Rattle.frame.specs.declared.Response.TheVariants.{Without, Plain, Checked}
use Rattle.frame.specs.Bits.{odd, bits_of, bits_of_byte}
use Rattle.frame.specs.Faults.{most_bytes}
use Rattle.frame.specs.Writing.{bit_widths, byte_widths, response_sent, response_widths, frame_words, empty_response, bad_message, most_words}

-- No bytes have no widths.
pub byte_widths_none : (c : Clock) → byte_widths c [] ≡ []
unfolding bit_widths bits_of
byte_widths_none c = refl

-- The widths of one byte are those of its bits ..
pub byte_widths_one : (c : Clock) (b : ℕ) → byte_widths c (b ∷ []) ≡ bit_widths c false (bits_of_byte b)
unfolding bit_widths bits_of
byte_widths_one c b = refl

-- .. which are eight, from passive on.
pub eight_widths : (c : Clock) (b : ℕ)
    → bit_widths c false (bits_of_byte b)
    ≡ (bit_width c false (odd (b / 128))).0
    ∷ (bit_width c true (odd (b / 64))).0
    ∷ (bit_width c false (odd (b / 32))).0
    ∷ (bit_width c true (odd (b / 16))).0
    ∷ (bit_width c false (odd (b / 8))).0
    ∷ (bit_width c true (odd (b / 4))).0
    ∷ (bit_width c false (odd (b / 2))).0
    ∷ (bit_width c true (odd b)).0
    ∷ []
unfolding bit_widths
eight_widths c b = refl

-- Eight widths for each byte.
pub byte_widths_length : (c : Clock) (bs : List ℕ) → length (byte_widths c bs) ≡ 8 * length bs
unfolding bit_widths bits_of
byte_widths_length c [] = refl
byte_widths_length c (b ∷ bs) = let ih = byte_widths_length c bs in omega arith

-- The widths of bytes and of bytes after them.
pub byte_widths_append : (c : Clock) (rs bs : List ℕ) → byte_widths c (rs ++ bs) ≡ byte_widths c rs ++ byte_widths c bs
unfolding bit_widths bits_of
byte_widths_append c [] bs = refl
byte_widths_append c (a ∷ rs) bs = ap (λ (ws : List ℕ). bit_widths c false (bits_of_byte a) ++ ws) (byte_widths_append c rs bs)

-- One byte more of a slice.
pub byte_widths_more : (c : Clock) (bs : List ℕ) (i : ℕ) → i < length bs
    → byte_widths c (take (i + 1) bs) ≡ byte_widths c (take i bs) ++ bit_widths c false (bits_of_byte (get_or bs i 0))
unfolding bit_widths bits_of
byte_widths_more c bs i h =
    rw (add-one, take-suc bs i 0 h) (byte_widths_append c (take i bs) (get_or bs i 0 ∷ []) ∙ ap (λ (ws : List ℕ). byte_widths c (take i bs) ++ ws) (last (get_or bs i 0)))
  where
    last : (b : ℕ) → byte_widths c (b ∷ []) ≡ bit_widths c false (bits_of_byte b)
    last b = refl

-- A check byte is one byte more.
pub with_check_length : (bs : List ℕ) → length (with_check bs) ≡ length bs + 1
with_check_length bs = length-append bs (check_of bs ∷ [])

-- the words that a response takes
abbrev pub response_words : Response → ℕ → ℕ
response_words Without n = 0
response_words Plain n = 2 + 8 * n
response_words Checked n = 2 + 8 * (n + 1)

-- A response takes so many words.
pub response_widths_length : (c : Clock) (kind : Response) (rs : List ℕ) → length (response_widths c kind rs) ≡ response_words kind (length rs)
response_widths_length c Without rs = refl
response_widths_length c Plain rs = let h = byte_widths_length c rs in omega arith
response_widths_length c Checked rs =
    let h = byte_widths_length c (with_check rs) in
    let k = with_check_length rs in
    omega arith

-- The words of a frame, part after part.
pub frame_words_are : (c : Clock) (main : List ℕ) (kind : Response) (rs : List ℕ)
    → frame_words c main kind rs ≡ end_width.0 ∷ c.sof.0 ∷ (byte_widths c (with_check main) ++ (response_widths c kind rs ++ (end_width.0 ∷ [])))
unfolding frame_words
frame_words_are c main kind rs = refl

-- A frame takes its two ends and its SOF, eight words for each byte of the main part with its check byte, and those of its
-- response.
pub frame_words_length : (c : Clock) (main : List ℕ) (kind : Response) (rs : List ℕ)
    → length (frame_words c main kind rs) ≡ 3 + 8 * (length main + 1) + response_words kind (length rs)
unfolding frame_words
frame_words_length c main kind rs =
    let a = length-append (byte_widths c (with_check main)) (response_widths c kind rs ++ (end_width.0 ∷ [])) in
    let b = length-append (response_widths c kind rs) (end_width.0 ∷ []) in
    let d = byte_widths_length c (with_check main) in
    let e = with_check_length main in
    let f = response_widths_length c kind rs in
    omega arith

-- ## When a message is turned away

module _ (main : List ℕ) (rs : List ℕ) where
  -- an empty message is, whatever the response
  pub bad_empty : (kind : Response) → length main ≡ 0 → bad_message main kind rs ≡ true
  unfolding bad_message
  bad_empty kind e = rw (eq-eqb (length main) 0 e)

  some : 0 < length main → eqb (length main) 0 ≡ false
  some h = ne_eqb (length main) 0 (λ e. omega arith)

  -- so is one that leaves no space for its own check byte
  pub bad_long : (kind : Response) → most_bytes ≤ length main → bad_message main kind rs ≡ true
  unfolding bad_message
  bad_long kind h =
      or_right (eqb (length main) 0) (empty_response kind rs || ltb most_bytes (length (with_check main) + length (response_sent kind rs)))
      (or_right (empty_response kind rs) (ltb most_bytes (length (with_check main) + length (response_sent kind rs)))
      (lt-ltb most_bytes (length (with_check main) + length (response_sent kind rs)) (omega (arith, with_check_length main))))

  -- one that does and asks for no response is admitted
  pub bad_without : 0 < length main → length main < most_bytes → bad_message main Without rs ≡ false
  unfolding bad_message
  bad_without p h = rw (some p, le-ltb most_bytes (length (with_check main) + 0) (omega (arith, with_check_length main)))

  -- with a plain response, and with a checked one, it goes by the space that the main part and its check byte leave
  pub bad_plain : 0 < length main → length main < most_bytes
      → bad_message main Plain rs ≡ (eqb (length rs) 0 || ltb (most_bytes - 1 - length main) (length rs))
  unfolding bad_message
  bad_plain p h =
      rw (
        some p,
        ltb_same most_bytes (length (with_check main) + length rs) (most_bytes - 1 - length main) (length rs)
            (λ x. omega (arith, with_check_length main)) (λ x. omega (arith, with_check_length main)),
      )

  -- the same for a checked one, whose own check byte takes space too
  pub bad_checked : 0 < length main → length main < most_bytes
      → bad_message main Checked rs ≡ (eqb (length rs) 0 || leb (most_bytes - 1 - length main) (length rs))
  unfolding bad_message
  bad_checked p h =
      rw (
        some p,
        ltb_same most_bytes (length (with_check main) + length (with_check rs)) (most_bytes - 1 - length main) (suc (length rs))
            (λ x. omega (arith, with_check_length main, with_check_length rs)) (λ x. omega (arith, with_check_length main, with_check_length rs)),
        leb-suc-suc (most_bytes - 1 - length main) (length rs),
      )

  -- so is one that asks for a response without bytes
  pub bad_response : (kind : Response) → empty_response kind rs ≡ true → bad_message main kind rs ≡ true
  unfolding bad_message
  bad_response kind e = or_right (eqb (length main) 0) _ (rw e refl)

  -- Any other is by its length: the main part's check byte takes one byte more.
  pub bad_length : (kind : Response) (sent : ℕ) → 0 < length main → empty_response kind rs ≡ false → sent ≡ length (response_sent kind rs)
      → bad_message main kind rs ≡ leb most_bytes (length main + sent)
  unfolding bad_message
  bad_length kind sent h e s =
      rw (
        ne_eqb (length main) 0 (λ x. omega arith),
        e,
        s,
        ltb_same most_bytes (length (with_check main) + length (response_sent kind rs)) most_bytes (suc (length main + length (response_sent kind rs)))
            (λ x. omega (arith, with_check_length main)) (λ x. omega (arith, with_check_length main)),
        leb-suc-suc most_bytes (length main + length (response_sent kind rs)),
      )

  -- An admitted message has at most twelve bytes with its checks,
  pub admitted_bytes : (kind : Response) → bad_message main kind rs ≡ false → length (with_check main) + length (response_sent kind rs) ≤ most_bytes
  unfolding bad_message
  admitted_bytes kind e =
      let total : ℕ = length (with_check main) + length (response_sent kind rs) in
      let h = neither (eqb (length main) 0) (empty_response kind rs || ltb most_bytes total) e in
      let k = neither (empty_response kind rs) (ltb most_bytes total) h.1 in
      ltb-false most_bytes total k.1

  -- and takes at most 101 words.
  pub admitted_words : (c : Clock) (kind : Response) → bad_message main kind rs ≡ false → length (frame_words c main kind rs) ≤ most_words
  admitted_words c Without e =
      omega (arith, frame_words_length c main Without rs, admitted_bytes Without e, with_check_length main)
  admitted_words c Plain e =
      omega (arith, frame_words_length c main Plain rs, admitted_bytes Plain e, with_check_length main)
  admitted_words c Checked e =
      omega (arith, frame_words_length c main Checked rs, admitted_bytes Checked e, with_check_length main, with_check_length rs)
