-- The lent words while a frame is laid into them, part by part: the space for each, and what stands there after it.
use Rattle.std.specs.Prelude.{ℕ, ◌+◌, ◌-◌, ◌<◌, ◌≤◌, ◌≡◌, refl, false, List, [], ◌∷◌, ◌++◌, length, get_or, take, drop, set}
use Rattle.std.proofs.Common.{subst, sym, ap, ◌∙◌, append_assoc, length-append, length-take-le, arith}
use Rattle.std.proofs.lemmas.List.{length-drop}
use borrow.Rule.Slice.PartMut.{put_mid}
use Rattle.symbol.specs.declared.Clock.{Clock}
use Rattle.symbol.specs.Sending.{end_width}
use Rattle.checkbyte.specs.Register.{check_of, with_check}
use Rattle.frame.specs.declared.Response.{Response}
use Rattle.frame.specs.Bits.{bits_of_byte}
use Rattle.frame.specs.Writing.{bit_widths, byte_widths, response_widths, frame_words}
use Rattle.frame.proofs.WidthLaws.{byte_widths_none, byte_widths_one, eight_widths, frame_words_are, byte_widths_length, byte_widths_append, byte_widths_more}
use Rattle.frame_write.specs.Laid.{Fits, Lays}
use Rattle.frame_write.proofs.Laying.{long, one_more, space_after, laid_after}

-- Eight words have space where those of a byte do.
pub eight_fit : (c : Clock) (b : ℕ) (l : List ℕ) → Fits (bit_widths c false (bits_of_byte b)) l → 8 ≤ length l
eight_fit c b l h = omega (arith, ap length (eight_widths c b))

-- No byte has been laid yet.
pub none_laid : (c : Clock) (l : List ℕ) → Lays (byte_widths c []) l l 0
none_laid c l = rw (byte_widths_none c) (record { laid = refl; counted = refl })

-- One byte more.
module _ (c : Clock) (bs : List ℕ) (i : ℕ) {l m : List ℕ} {n : ℕ} (laid : Lays (byte_widths c (take i bs)) l m n) (h : i < length bs) (enough : Fits (byte_widths c bs) l) where
  more : Fits (byte_widths c (take i bs) ++ bit_widths c false (bits_of_byte (get_or bs i 0))) l
  more = rw (← byte_widths_more c bs i h) (omega (arith, byte_widths_length c (take (i + 1) bs), byte_widths_length c bs, length-take-le (i + 1) bs (omega arith)))

  pub byte_space : Fits (bit_widths c false (bits_of_byte (get_or bs i 0))) (take (length m - n) (drop n m))
  byte_space = space_after laid _ more

  pub byte_laid : {part : List ℕ} {k : ℕ} → Lays (bit_widths c false (bits_of_byte (get_or bs i 0))) (take (length m - n) (drop n m)) part k
      → Lays (byte_widths c (take (i + 1) bs)) l (put_mid n (length m - n) m part) (n + k)
  byte_laid part = rw (byte_widths_more c bs i h) (laid_after laid _ more part)

-- Bytes, and after them their check byte.
module _ (c : Clock) (bs l : List ℕ) (check : ℕ) (enough : Fits (byte_widths c (bs ++ (check ∷ []))) l) where
  both : byte_widths c (bs ++ (check ∷ [])) ≡ byte_widths c bs ++ bit_widths c false (bits_of_byte check)
  both = byte_widths_append c bs (check ∷ []) ∙ ap (λ (ws : List ℕ). byte_widths c bs ++ ws) (byte_widths_one c check)

  pub bytes_space : Fits (byte_widths c bs) l
  bytes_space = omega (arith, ap length both, length-append (byte_widths c bs) (bit_widths c false (bits_of_byte check)))

  module _ {m : List ℕ} {n : ℕ} (laid : Lays (byte_widths c bs) l m n) where
    pub check_space : Fits (bit_widths c false (bits_of_byte check)) (take (length m - n) (drop n m))
    check_space = space_after laid _ (rw (← both) enough)

    pub check_laid : {part : List ℕ} {k : ℕ} → Lays (bit_widths c false (bits_of_byte check)) (take (length m - n) (drop n m)) part k
        → Lays (byte_widths c (bs ++ (check ∷ []))) l (put_mid n (length m - n) m part) (n + k)
    check_laid part = rw both (laid_after laid _ (rw (← both) enough) part)

-- ## A frame: the opening and the SOF, the main part, the response, the closing end

-- Two words, copied to the front.
pub two_laid : (a b : ℕ) {copied l : List ℕ} → copied ≡ a ∷ b ∷ [] → Lays (a ∷ b ∷ []) l (copied ++ drop 2 l) 2
two_laid a b {l} e = record { laid = ap (λ (ws : List ℕ). ws ++ drop 2 l) e; counted = refl }

module _ (c : Clock) (main : List ℕ) (kind : Response) (rs l : List ℕ) (enough : Fits (frame_words c main kind rs) l) where
  abbrev head : List ℕ
  head = end_width.0 ∷ c.sof.0 ∷ []

  abbrev body : List ℕ
  body = byte_widths c (with_check main)

  abbrev reply : List ℕ
  reply = response_widths c kind rs

  parts : length head + length body + length reply + 1 ≤ length l
  parts = omega (arith, ap length (frame_words_are c main kind rs), length-append body (reply ++ (end_width.0 ∷ [])), length-append reply (end_width.0 ∷ []))

  pub head_space : 2 ≤ length l
  head_space = omega (arith, parts)

  module _ {m : List ℕ} {n : ℕ} (headed : Lays head l m n) where
    to_body : Fits (head ++ body) l
    to_body = omega (arith, parts, length-append head body)

    pub main_space : {check : ℕ} → check ≡ check_of main → Fits (byte_widths c (main ++ (check ∷ []))) (take (length m - n) (drop n m))
    main_space is = rw is (space_after headed body to_body)

    pub main_laid : {check : ℕ} → check ≡ check_of main → {part : List ℕ} {k : ℕ}
        → Lays (byte_widths c (main ++ (check ∷ []))) (take (length m - n) (drop n m)) part k → Lays (head ++ body) l (put_mid n (length m - n) m part) (n + k)
    main_laid is {part} {k} laid =
        laid_after headed body to_body (subst (λ (b : ℕ). Lays (byte_widths c (main ++ (b ∷ []))) (take (length m - n) (drop n m)) part k) is laid)

  module _ {m : List ℕ} {n : ℕ} (laid : Lays (head ++ body) l m n) where
    to_reply : Fits ((head ++ body) ++ reply) l
    to_reply = omega (arith, parts, length-append (head ++ body) reply, length-append head body)

    pub response_space : Fits reply (take (length m - n) (drop n m))
    response_space = space_after laid reply to_reply

    pub response_laid : {part : List ℕ} {k : ℕ} → Lays reply (take (length m - n) (drop n m)) part k → Lays ((head ++ body) ++ reply) l (put_mid n (length m - n) m part) (n + k)
    response_laid part = laid_after laid reply to_reply part

  module _ {m : List ℕ} {n : ℕ} (laid : Lays ((head ++ body) ++ reply) l m n) where
    so_long : length ((head ++ body) ++ reply) + 1 ≤ length l
    so_long = omega (arith, parts, length-append (head ++ body) reply, length-append head body)

    pub closing_space : n < length m
    closing_space = omega (arith, so_long, laid.counted, long laid, length-drop (length ((head ++ body) ++ reply)) l)

    pub frame_laid : Lays (frame_words c main kind rs) l (set m n end_width.0) (n + 1)
    frame_laid =
        subst (λ (ws : List ℕ). Lays ws l (set m n end_width.0) (n + 1))
        (append_assoc (head ++ body) reply (end_width.0 ∷ []) ∙ sym (frame_words_are c main kind rs)) (one_more laid end_width.0 (omega (arith, so_long)))
