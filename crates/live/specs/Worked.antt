-- Laws.
-- Document 01's worked reading, heard interval by interval: computed from the definitions.
use Rattle.std.specs.Prelude.{ℕ, ◌≡◌, refl, List, [], ◌∷◌, ◌++◌, map, replicate}
use Rattle.symbol.specs.Classes.{class_of, end_of}
use Rattle.checkbyte.specs.Register.{shift, eight_shifts, step_of as register_step}
use Rattle.frame.specs.Faults.{most_bytes}
use Rattle.frame.specs.Reading.{good, quiet}
use Rattle.frame.specs.Worked.{ffff, ffff_read}
use Rattle.frame_machine.specs.Steps.{push_of, bit_of, sof_of, close_of}
use Rattle.frame_parts.specs.Laying.{laid_of as parts_laid}
use Rattle.live_held.specs.Reader.{held_by, begins_anew, goes_on}
use Rattle.live.specs.Feeding.{started, taken_of, fed_of, laid_of, lent_of, asked_of}
use Rattle.live_held.specs.Held.{inside_of, outside, after}
use Rattle.live.specs.Shown.{Delivered, shows_all, after_all, shows_asked, reads}

-- its intervals, with twelve bytes of zeros lent for each
abbrev pub heard_ffff : List Delivered
heard_ffff = map (λ (w : ℕ). record { width = w; lent = replicate most_bytes 0 }) ffff

-- The frame FF FF is told at its closing end, with its bytes; then the reader is quiet from there.
pub heard_worked : shows_all started heard_ffff ++ (shows_asked (after_all started heard_ffff) ∷ [])
    ≡ (reads (good ffff_read) ∷ reads (quiet 18) ∷ [])
unfolding held_by inside_of outside after parts_laid started begins_anew goes_on taken_of fed_of laid_of lent_of asked_of push_of bit_of sof_of close_of class_of end_of register_step eight_shifts shift
heard_worked = refl
