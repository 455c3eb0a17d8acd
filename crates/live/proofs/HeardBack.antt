-- Laws.
-- Demand 2, heard live: the wave of an admitted message, with widths anywhere inside the receiving windows, so that of every
-- permitted clock too, is heard as that message.
use Rattle.std.specs.Prelude.{ℕ, ◌+◌, ◌-◌, ◌<◌, ◌≡◌, refl, true, false, List, [], ◌∷◌, ◌++◌, length}
use Rattle.std.proofs.Common.{sym, ap, subst, ◌∙◌, append-nil, arith, le-leb}
use Rattle.std.proofs.lemmas.List.{length-map}
use Rattle.symbol.specs.declared.Clock.{Clock}
use Rattle.symbol.specs.Clocks.{good_of}
use Rattle.symbol.specs.SendingLaws.{good as good-clock}
use Rattle.frame.specs.declared.Response.{Response}
use Rattle.checkbyte.specs.Register.{Bytes}
use Rattle.frame.specs.Line.{single, at, opening}
use Rattle.frame.specs.Faults.{most_bytes}
use Rattle.frame.specs.Reading.{Outcome, good, quiet, reading}
use Rattle.frame.proofs.Outcomes.{reads_by}
use Rattle.frame.specs.Writing.{frame_sent, bad_message, frame_words}
use Rattle.frame.specs.Waves.{FrameWave}
use Rattle.frame.proofs.ReadBack.{wave_few, reads_wave}
use Rattle.frame.proofs.WrittenBack.{written_wave}
use Rattle.frame.specs.ReadingOn.{next_of, last, more}
use Rattle.frame.proofs.RecordingOn.{progress, ReadsOn, closing_opens}
use Rattle.live.specs.Feeding.{started}
use Rattle.live.specs.Shown.{Delivered, recording, Enough, after_all, shows_all, reads, shows_asked}
use Rattle.live.proofs.Whole.{live_whole}

module _ (ws main : List ℕ) (kind : Response) (rs : List ℕ) (wave : FrameWave main kind rs ws) (adm : bad_message main kind rs ≡ false) (mb : Bytes main) (rb : Bytes rs) where
  -- the message as reading tells it, from the opening to the closing end
  abbrev message : Outcome
  message = good (frame_sent main kind rs 0 (length ws - 1))

  is_message : reading ws 0 most_bytes ≡ message
  is_message =
      let e : 0 + length ws - 1 ≡ length ws - 1 = omega arith in
      ap (λ (l : List ℕ). reading l 0 most_bytes) (sym (append-nil ws)) ∙ reads_wave [] ws [] main kind rs most_bytes wave adm mb rb refl (omega arith)
      ∙ ap (λ (k : ℕ). good (frame_sent main kind rs 0 k)) e

  then_quiet : reading ws (length ws - 1) most_bytes ≡ quiet (length ws - 1)
  then_quiet =
      let goes : (0 < next_of (reading ws 0 most_bytes)) × (next_of (reading ws 0 most_bytes) < length ws) = progress most_bytes (single ws) 0 most_bytes (rw is_message) in
      let within : length ws - 1 < length ws = rw is_message at goes.1 in
      let opens : opening (single ws) (length ws - 1) ≡ at (length ws - 1) = closing_opens most_bytes (single ws) 0 most_bytes (frame_sent main kind rs 0 (length ws - 1)) is_message in
      reads_by most_bytes (single ws) (length ws - 1) most_bytes (omega arith) (omega arith) ∙ rw (opens, le-leb (length ws) (length ws - 1 + 1) (omega (arith, within)))

  reads_both : ReadsOn ws most_bytes 0 (message ∷ quiet (length ws - 1) ∷ [])
  reads_both =
      subst (λ (x : Outcome). ReadsOn ws most_bytes 0 (x ∷ quiet (length ws - 1) ∷ [])) is_message
      (more (rw is_message)
      (subst (λ (p : ℕ). ReadsOn ws most_bytes p (quiet (length ws - 1) ∷ [])) (sym (ap next_of is_message))
      (subst (λ (x : Outcome). ReadsOn ws most_bytes (length ws - 1) (x ∷ [])) then_quiet (last (rw then_quiet)))))

-- The intervals of such a wave, heard by a started reader, show the message at its closing end, with its bytes, and asking then
-- shows quiet.
pub heard_wave : (is : List Delivered) (main : List ℕ) (kind : Response) (rs : List ℕ) → Enough is → FrameWave main kind rs (recording is)
    → bad_message main kind rs ≡ false → Bytes main → Bytes rs
    → shows_all started is ++ (shows_asked (after_all started is) ∷ [])
    ≡ (reads (good (frame_sent main kind rs 0 (length (recording is) - 1))) ∷ reads (quiet (length (recording is) - 1)) ∷ [])
heard_wave is main kind rs enough wave adm mb rb =
    live_whole is enough (omega (arith, wave_few wave adm, length-map is (λ (c : Delivered). c.width))) _ (reads_both (recording is) main kind rs wave adm mb rb)

-- The same for what the writer writes, at every clock in the sending windows.
pub heard_written : (c : Clock) (is : List Delivered) (main : List ℕ) (kind : Response) (rs : List ℕ) → good_of c ≡ true → bad_message main kind rs ≡ false
    → Bytes main → Bytes rs → Enough is → recording is ≡ frame_words c main kind rs
    → shows_all started is ++ (shows_asked (after_all started is) ∷ [])
    ≡ (reads (good (frame_sent main kind rs 0 (length (recording is) - 1))) ∷ reads (quiet (length (recording is) - 1)) ∷ [])
heard_written c is main kind rs g adm mb rb enough e =
    heard_wave is main kind rs enough (subst (FrameWave main kind rs) (sym e) (written_wave c (good-clock c g) main kind rs)) adm mb rb
