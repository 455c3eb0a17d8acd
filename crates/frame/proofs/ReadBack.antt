-- Laws.
-- Read-back: a frame that stands on the line, with anything before it and anything after it, is read as the message that it
-- carries, whatever its widths are inside the receiving windows.
use Rattle.std.specs.Prelude.{ℕ, ◌+◌, ◌-◌, ◌%◌, ◌≤◌, ◌<◌, ◌≡◌, Bool, length, get_or}
use Rattle.std.proofs.Math.Path.{refl}
use Rattle.std.proofs.Common.{sym, ap, ◌∙◌, arith, length-append, eq-eqb, ne_eqb, le-leb}
use Rattle.std.proofs.Math.Bool.{true, false}
use mathlib.Core.List.{List, [], ◌∷◌, ◌++◌, map, append-nil, append_assoc}
use Rattle.std.proofs.lemmas.List.{length-map}
use Rattle.symbol.specs.declared.Symbol.{Symbol}
use Rattle.symbol.specs.declared.Symbol.TheVariants.{Bit0, Bit1, Eod}
use Rattle.symbol.specs.Clocks.{nominal_clock}
use Rattle.symbol.specs.Classes.{end_of}
use Rattle.checkbyte.specs.Register.{with_check, Bytes}
use Rattle.frame.specs.declared.Response.{Response}
use Rattle.frame.specs.declared.Response.TheVariants.{Without, Plain, Checked}
use Rattle.frame.specs.Bits.{bytes, bits_of}
use Rattle.frame.specs.Signs.{Sign, sof, bit, shut}
use Rattle.frame.specs.Line.{symbol_at, sign_of, Line, single, end_at}
use Rattle.frame.specs.Standing.{plain, checked, Standing, at_sof, in_main, in_response}
use Rattle.frame.specs.Faults.{most_bytes, fault}
use Rattle.frame.specs.Reading.{good, closed, read_on, reading}
use Rattle.frame.specs.Writing.{most_words, frame_sent, bad_message}
use Rattle.frame.proofs.WidthLaws.{admitted_words}
use Rattle.frame.proofs.Outcomes.{opened_reading}
use Rattle.frame.specs.ReadStated.{Opens, Complete, ChecksRight}
use Rattle.frame.proofs.ByteLaws.{bytes_back, bits_length, with_bytes}
use Rattle.frame.specs.Waves.{bit_symbols, byte_symbols, response_symbols, frame_symbols, FrameWave}
use Rattle.frame.specs.WaveLaws.{Stand, Shows, stands_after, stand_append, wave_carries, wave_length, bit_shown, carry_shows, shows_append}
use Rattle.frame.specs.WriteStated.{Carry, Admitted}
use Rattle.frame.proofs.ShownLaws.{end_width_law, end_shuts}
use Rattle.frame.proofs.Passing.{Closes, on, passes_closes, decides_it}
use Rattle.frame.proofs.Parts.{sealed_complete, sealed_right, plain_complete, spells, part_closes, part_passes}
use Rattle.frame.specs.Admitted.{admitted}
use Rattle.frame.proofs.WordLaws.{bytes_length, words_count}

-- ## A message's symbols

-- where a frame's closing end stands
abbrev last_standing : List ℕ → Response → List ℕ → Standing
last_standing main Without rs = in_main (bits_of (with_check main))
last_standing main Plain rs = in_response plain (bits_of (with_check main)) (bits_of rs)
last_standing main Checked rs = in_response checked (bits_of (with_check main)) (bits_of (with_check rs))

-- what a frame shows, from its SOF to its closing end
abbrev frame_signs : List ℕ → Response → List ℕ → List Sign
frame_signs main Without rs = sof ∷ (map bit (bits_of (with_check main)) ++ (shut false ∷ []))
frame_signs main Plain rs =
    sof ∷ ((map bit (bits_of (with_check main)) ++ (shut true ∷ [])) ++ (bit true ∷ (map bit (bits_of rs) ++ (shut false ∷ []))))
frame_signs main Checked rs =
    sof ∷ ((map bit (bits_of (with_check main)) ++ (shut true ∷ [])) ++ (bit false ∷ (map bit (bits_of (with_check rs)) ++ (shut false ∷ []))))

bits_shown_law : (bits : List Bool) (rest : List Symbol) → map sign_of (bit_symbols bits ++ rest) ≡ map bit bits ++ map sign_of rest
bits_shown_law [] rest = refl
bits_shown_law (b ∷ bits) rest = rw (bit_shown b, bits_shown_law bits rest)

all_shown : (bits : List Bool) → map sign_of (bit_symbols bits) ≡ map bit bits
all_shown [] = refl
all_shown (b ∷ bits) = rw (bit_shown b, all_shown bits)

-- what shuts the main part goes with it
around : (m : List Sign) (b : Bool) (r : List Sign) → (m ++ (shut true ∷ bit b ∷ r)) ++ (shut false ∷ []) ≡ (m ++ (shut true ∷ [])) ++ (bit b ∷ (r ++ (shut false ∷ [])))
around m b r = append_assoc m (shut true ∷ bit b ∷ r) (shut false ∷ []) ∙ sym (append_assoc m (shut true ∷ []) (bit b ∷ (r ++ (shut false ∷ []))))

-- its symbols and the closing end show that
frame_shows : (main : List ℕ) (kind : Response) (rs : List ℕ) → map sign_of (frame_symbols main kind rs) ++ (shut false ∷ []) ≡ frame_signs main kind rs
frame_shows main Without rs = rw (bits_shown_law (bits_of (with_check main)) [], append-nil (map bit (bits_of (with_check main))))
frame_shows main Plain rs =
    ap (λ (x : List Sign). sof ∷ x)
    (ap (λ (x : List Sign). x ++ (shut false ∷ [])) (bits_shown_law (bits_of (with_check main)) (Eod ∷ Bit1 ∷ byte_symbols rs) ∙ ap (λ (x : List Sign). map bit (bits_of (with_check main)) ++ (shut true ∷ bit true ∷ x)) (all_shown (bits_of rs)))
    ∙ around (map bit (bits_of (with_check main))) true (map bit (bits_of rs)))
frame_shows main Checked rs =
    ap (λ (x : List Sign). sof ∷ x)
    (ap (λ (x : List Sign). x ++ (shut false ∷ [])) (bits_shown_law (bits_of (with_check main)) (Eod ∷ Bit0 ∷ byte_symbols (with_check rs)) ∙ ap (λ (x : List Sign). map bit (bits_of (with_check main)) ++ (shut true ∷ bit false ∷ x)) (all_shown (bits_of (with_check rs))))
    ∙ around (map bit (bits_of (with_check main))) false (map bit (bits_of (with_check rs))))

module _ (main : List ℕ) (rs : List ℕ) (mb : Bytes main) (rb : Bytes rs) where
  main_complete : 1 ≤ length main → Complete (in_main (bits_of (with_check main)))
  main_complete h = sealed_complete main (in_main (bits_of (with_check main))) mb h refl (omega arith)

  main_right : ChecksRight (in_main (bits_of (with_check main)))
  main_right = sealed_right main (in_main (bits_of (with_check main))) mb refl

  -- Nothing in an admitted message's frame is at fault, and its closing end closes it.
  frame_closes : (kind : Response) → Admitted main kind rs → Closes most_bytes at_sof (frame_signs main kind rs) (last_standing main kind rs)
  unfolding fault
  frame_closes Without a =
      on refl refl (part_closes (spells false (bits_of (with_check main))) (in_main []) refl (omega (arith, a.at_most, bits_length (with_check main))) (main_complete a.some_main) main_right)
  frame_closes Plain a =
      on refl refl
      (passes_closes (part_passes (spells true (bits_of (with_check main))) [] (omega (arith, a.at_most, bits_length (with_check main))) (main_complete a.some_main) main_right)
      (on refl refl
      (part_closes (spells false (bits_of rs)) (in_response plain (bits_of (with_check main)) []) refl (omega (arith, a.at_most, bits_length (with_check main), bits_length rs))
      (plain_complete (bits_of (with_check main)) rs rb a.some_response) refl)))
  frame_closes Checked a =
      on refl refl
      (passes_closes (part_passes (spells true (bits_of (with_check main))) [] (omega (arith, a.at_most, bits_length (with_check main))) (main_complete a.some_main) main_right)
      (on refl refl
      (part_closes (spells false (bits_of (with_check rs))) (in_response checked (bits_of (with_check main)) []) refl (omega (arith, a.at_most, bits_length (with_check main), bits_length (with_check rs)))
      (sealed_complete rs (last_standing main Checked rs) rb a.some_response refl (omega arith)) (sealed_right rs (last_standing main Checked rs) rb refl))))

  -- What stands before its closing end is the message.
  frame_says : (kind : Response) (o k : ℕ) → closed (last_standing main kind rs) o k ≡ frame_sent main kind rs o k
  unfolding bytes
  frame_says Without o k = rw (bytes_back (with_check main) (with_bytes main mb))
  frame_says Plain o k = rw (bytes_back (with_check main) (with_bytes main mb), bytes_back rs rb)
  frame_says Checked o k = rw (bytes_back (with_check main) (with_bytes main mb), bytes_back (with_check rs) (with_bytes rs rb))

  -- ## On the line

  -- A line that opens at o and shows an admitted message's frame after that, up to its closing end at k, is read as that message.
  pub reads_signs : (kind : Response) (l : Line) (p o k lent : ℕ) → bad_message main kind rs ≡ false → most_bytes ≤ lent → Opens l p o
      → Shows l (o + 1) (frame_signs main kind rs) → o + length (frame_signs main kind rs) ≡ k → k < l.count
      → read_on most_bytes l p lent ≡ good (frame_sent main kind rs o k)
  reads_signs kind l p o k lent adm enough op c n inside =
      opened_reading most_bytes l p lent o enough op
      ∙ decides_it most_bytes l o (frame_closes kind ((admitted main kind rs).0 adm)) c (omega (arith, n, inside))
      ∙ ap good (ap (λ (x : ℕ). closed (last_standing main kind rs) o x) n ∙ frame_says kind o k)

  -- A recording that opens at o, carries an admitted message's symbols after that, and then has an end, at k, is read as that
  -- message.
  pub reads_symbols : (kind : Response) (ws : List ℕ) (p o k lent : ℕ) → bad_message main kind rs ≡ false → most_bytes ≤ lent → Opens (single ws) p o
      → Carry ws (o + 1) (frame_symbols main kind rs) → o + 1 + length (frame_symbols main kind rs) ≡ k → end_at (single ws) k ≡ true → k < length ws
      → reading ws p lent ≡ good (frame_sent main kind rs o k)
  reads_symbols kind ws p o k lent adm enough op c n e inside =
      reads_signs kind (single ws) p o k lent adm enough op shown (ap (λ (x : List Sign). o + length x) (sym (frame_shows main kind rs)) ∙ omega (arith, n, length-append (map sign_of (frame_symbols main kind rs)) (shut false ∷ []), length-map (frame_symbols main kind rs) sign_of)) inside
    where
      last : o + 1 + length (map sign_of (frame_symbols main kind rs)) ≡ k
      last = omega (arith, n, length-map (frame_symbols main kind rs) sign_of)

      shown : Shows (single ws) (o + 1) (frame_signs main kind rs)
      shown =
          rw (← (frame_shows main kind rs))
          (shows_append (single ws) (o + 1) (map sign_of (frame_symbols main kind rs)) (shut false ∷ []) (carry_shows ws (o + 1) (frame_symbols main kind rs) c)
          (rw last (end_shuts (symbol_at ws k) e, tt)))

-- ## Waves

response_even : (kind : Response) (rs : List ℕ) → length (response_symbols kind rs) % 2 ≡ 0
response_even Without rs = refl
response_even Plain rs = omega (arith, bytes_length rs)
response_even Checked rs = omega (arith, bytes_length (with_check rs))

-- Between the ends of a frame stands an odd number of intervals: the closing end is passive again.
frame_odd : (main : List ℕ) (kind : Response) (rs : List ℕ) → length (frame_symbols main kind rs) % 2 ≡ 1
frame_odd main kind rs =
    omega (arith, length-append (byte_symbols (with_check main)) (response_symbols kind rs), bytes_length (with_check main), response_even kind rs)

long_end : (ws : List ℕ) (k : ℕ) → k % 2 ≡ 0 → 240 ≤ get_or ws k 0 → end_at (single ws) k ≡ true
unfolding end_of
long_end ws k h w = end_width_law ws k ∙ rw (ne_eqb (k % 2) 1 (λ e. omega arith), le-leb 240 (get_or ws k 0) w)

-- A frame's wave has as many words as the message has symbols, and the two ends: at most 101.
pub wave_words : {main : List ℕ} {kind : Response} {rs ws : List ℕ} → FrameWave main kind rs ws → length ws ≡ length (frame_symbols main kind rs) + 2
wave_words f = ap length f.words_are ∙ omega (arith, length-append f.inner (f.closing ∷ []), wave_length f.carries)

-- An admitted message takes at most 101 words at any widths.
pub wave_few : {main : List ℕ} {kind : Response} {rs ws : List ℕ} → FrameWave main kind rs ws → bad_message main kind rs ≡ false → length ws ≤ most_words
wave_few {main} {kind} {rs} f h = omega (arith, wave_words f, words_count nominal_clock main kind rs, admitted_words main rs nominal_clock kind h)

-- A wave is read wherever its words stand in a recording, beginning passive.
reads_standing : (line ws main : List ℕ) (kind : Response) (rs : List ℕ) (o lent : ℕ) → FrameWave main kind rs ws → Stand line o ws
    → o + length ws ≤ length line → bad_message main kind rs ≡ false → Bytes main → Bytes rs → o % 2 ≡ 0 → most_bytes ≤ lent
    → reading line o lent ≡ good (frame_sent main kind rs o (o + length ws - 1))
reads_standing line ws main kind rs o lent f st fits adm mb rb even enough =
    reads_symbols main rs mb rb kind line o o (o + length ws - 1) lent adm enough opens carries place end inside
  where
    words : Stand line o (f.opening ∷ (f.inner ++ (f.closing ∷ [])))
    words = rw f.words_are at st

    inner : Stand line (o + 1) f.inner × Stand line (o + 1 + length f.inner) (f.closing ∷ [])
    inner = stand_append line (o + 1) f.inner (f.closing ∷ []) words.1

    place : o + 1 + length (frame_symbols main kind rs) ≡ o + length ws - 1
    place = omega (arith, wave_words f)

    carries : Carry line (o + 1) (frame_symbols main kind rs)
    carries = wave_carries line (o + 1) f.carries (eq-eqb ((o + 1) % 2) 1 (omega arith)) inner.0

    end : end_at (single line) (o + length ws - 1) ≡ true
    end =
        let here : o + 1 + length f.inner ≡ o + length ws - 1 = omega (arith, wave_words f, wave_length f.carries) in
        long_end line (o + length ws - 1) (omega (arith, wave_words f, frame_odd main kind rs)) (rw (← here, inner.1.0) f.closes)

    inside : o + length ws - 1 < length line
    inside = omega (arith, wave_words f)

    opens : Opens (single line) o o
    opens =
        record {
          from = omega arith;
          end = long_end line o even (rw words.0 f.opens);
          none_before = λ j x y. absurd (omega arith);
          followed = omega (arith, wave_words f);
        }

-- READ-BACK OF A WAVE. Any words that are a frame of an admitted message at widths inside the receiving windows, with anything
-- standing before them, so that they begin passive, and anything after them, are read from their first place as that message:
-- both parts with their checks, the kind of response, the opening at that place, the next position at their last.
pub reads_wave : (before ws after main : List ℕ) (kind : Response) (rs : List ℕ) (lent : ℕ) → FrameWave main kind rs ws
    → bad_message main kind rs ≡ false → Bytes main → Bytes rs → length before % 2 ≡ 0 → most_bytes ≤ lent
    → reading (before ++ (ws ++ after)) (length before) lent
    ≡ good (frame_sent main kind rs (length before) (length before + length ws - 1))
reads_wave before ws after main kind rs lent f adm mb rb even enough =
    reads_standing (before ++ (ws ++ after)) ws main kind rs (length before) lent f (stands_after before ws after)
    (simp length-append (omega arith)) adm mb rb even enough
