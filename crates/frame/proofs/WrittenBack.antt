-- Laws.
-- What is written is read back: for every admitted message and every good clock.
use Rattle.std.specs.Prelude.{ℕ, ◌+◌, ◌-◌, ◌%◌, ◌≤◌, ◌≡◌, refl, Bool, true, false, not, Some, length}
use mathlib.Core.List.{List, [], ◌∷◌, ◌++◌}
use Rattle.std.proofs.Common.{arith}
use Rattle.symbol.specs.declared.Symbol.{Symbol}
use Rattle.symbol.specs.declared.Symbol.TheVariants.{Bit0, Bit1, Eod, Sof}
use Rattle.symbol.specs.declared.Clock.{Clock}
use Rattle.symbol.specs.Classes.{Window}
use Rattle.symbol.specs.Clocks.{good_of, Good}
use Rattle.symbol.specs.Sending.{bit_width, end_width, sent_of, bit_symbol}
use Rattle.symbol.specs.SendingLaws.{good as good-clock, sent_in, sending_inside}
use Rattle.units.specs.declared.Micros.{Micros}
use Rattle.checkbyte.specs.Register.{with_check, Bytes}
use Rattle.frame.specs.declared.Response.{Response}
use Rattle.frame.specs.declared.Response.TheVariants.{Without, Plain, Checked}
use Rattle.frame.specs.Bits.{bits_of}
use Rattle.frame.specs.Faults.{most_bytes}
use Rattle.frame.specs.Reading.{good, reading}
use Rattle.frame.specs.Writing.{frame_sent, bit_widths, response_widths, frame_words, bad_message}
use Rattle.frame.specs.Waves.{Wave, still, pulse, bit_symbols, byte_symbols, response_symbols, FrameWave}
use Rattle.frame.specs.WaveLaws.{turned, wave_append}
use Rattle.frame.proofs.WordLaws.{level_back, frame_inner}
use Rattle.frame.specs.WriteStated.{inner_words}
use Rattle.frame.proofs.ReadBack.{reads_wave}

module _ (c : Clock) (g : Good c) where
  -- what a good clock sends for a symbol lies in the symbol's receiving window
  sent_window : (active : Bool) (s : Symbol) (w : Micros) → sent_of c active s ≡ Some w → Window active s w.0
  sent_window active s w e = sending_inside active s w.0 (sent_in c active s w g e)

  bit_window : (active b : Bool) → Window active (bit_symbol b) (bit_width c active b).0
  bit_window true true = sent_window true Bit1 c.short refl
  bit_window true false = sent_window true Bit0 c.long refl
  bit_window false true = sent_window false Bit1 c.long refl
  bit_window false false = sent_window false Bit0 c.short refl

  bits_wave : (active : Bool) (bits : List Bool) → Wave active (bit_symbols bits) (bit_widths c active bits)
  unfolding bit_widths
  bits_wave active [] = still
  bits_wave active (b ∷ bits) = pulse (bit_window active b) (bits_wave (not active) bits)

  response_wave : (kind : Response) (rs : List ℕ) → Wave false (response_symbols kind rs) (response_widths c kind rs)
  response_wave Without rs = still
  response_wave Plain rs = pulse (sent_window false Eod c.sof refl) (pulse (bit_window true true) (bits_wave false (bits_of rs)))
  response_wave Checked rs = pulse (sent_window false Eod c.sof refl) (pulse (bit_window true false) (bits_wave false (bits_of (with_check rs))))

  -- The writer's words are a wave of the message, for every clock whose widths lie in the sending windows.
  pub written_wave : (main : List ℕ) (kind : Response) (rs : List ℕ) → FrameWave main kind rs (frame_words c main kind rs)
  written_wave main kind rs =
      let response : Wave (turned false (byte_symbols (with_check main))) (response_symbols kind rs) (response_widths c kind rs) = rw (level_back false (with_check main)) (response_wave kind rs) in
      record {
        opening = end_width.0;
        inner = inner_words c main kind rs;
        closing = end_width.0;
        words_are = frame_inner c main kind rs;
        opens = omega arith;
        carries = pulse (sent_window true Sof c.sof refl) (wave_append (bits_wave false (bits_of (with_check main))) response);
        closes = omega arith;
      }

-- DEMAND 2, FIRST THEOREM. For every admitted message and every clock in the sending windows, what the writer writes, with
-- anything standing before it, so that it begins passive, and anything after it, is read from its first place as that message:
-- both parts with their checks, the kind of response, the opening at its first word and the next position at its last.
pub reads_written : (c : Clock) (before after main : List ℕ) (kind : Response) (rs : List ℕ) (lent : ℕ) → good_of c ≡ true
    → bad_message main kind rs ≡ false → Bytes main → Bytes rs → length before % 2 ≡ 0 → most_bytes ≤ lent
    → reading (before ++ (frame_words c main kind rs ++ after)) (length before) lent
    ≡ good (frame_sent main kind rs (length before) (length before + length (frame_words c main kind rs) - 1))
reads_written c before after main kind rs lent g adm mb rb even enough =
    reads_wave before (frame_words c main kind rs) after main kind rs lent (written_wave c (good-clock c g) main kind rs) adm mb rb even enough
