-- Definitions.
-- Document 01's example of the desk's text, computed from the definition.
use Rattle.std.specs.Prelude.{ℕ, ◌≡◌, refl, List, [], ◌∷◌, ◌++◌}
use Rattle.symbol.specs.Classes.{class_of}
use Rattle.checkbyte.specs.Register.{shift, eight_shifts, step_of, register_from, check_of}
use Rattle.frame.specs.Bits.{bytes}
use Rattle.frame.specs.Line.{symbol_at, first, opening, bits_from}
use Rattle.frame.specs.Standing.{stands}
use Rattle.frame.specs.Faults.{checks_out, fault}
use Rattle.frame.specs.Reading.{decides, read_on}
use Rattle.frame.specs.ReadingOn.{answers_by}
use Rattle.frame.proofs.RecordingOn.{answers_in}
use Rattle.frame.specs.Worked.{ffff}
use Rattle.label.specs.Labels.{every, label_byte, is_label}
use Rattle.desk_text.specs.Grammar.{pieces, same, digit, spells, is_width}
use Rattle.desk_text.specs.Input.{lines, own, iv, own_line, iv_line, iv_at, bad_from, widths_from}
use Rattle.desk_text.specs.Numerals.{decimal_in, decimal, hex_digit, hex}
use Rattle.desk_text.specs.Report.{w_frame, w_quiet, w_none, line_of, header, answer_text, answers_text, report, desk_of}

-- `c17`
abbrev pub c17 : List ℕ
c17 = 99 ∷ 49 ∷ 55 ∷ []

-- `v204`
abbrev pub v204 : List ℕ
v204 = 118 ∷ 50 ∷ 48 ∷ 52 ∷ []

-- a line `iv` for each width
abbrev pub iv_lines : List ℕ → List ℕ
iv_lines [] = []
iv_lines (w ∷ ws) = line_of (iv ∷ decimal w ∷ []) ++ iv_lines ws

-- "300, 200, eight times (128, 64), 300 after `own`, c17, v204"
abbrev pub example_input : List ℕ
example_input = line_of (own ∷ c17 ∷ v204 ∷ []) ++ iv_lines ffff

-- the header; a frame at 0 with the main part `FFFF` and no response; quiet at 18
abbrev pub example_text : List ℕ
example_text =
    header
    ++ (line_of (c17 ∷ v204 ∷ (48 ∷ []) ∷ w_frame ∷ (70 ∷ 70 ∷ 70 ∷ 70 ∷ []) ∷ w_none ∷ [])
    ++ line_of (c17 ∷ v204 ∷ (49 ∷ 56 ∷ []) ∷ w_quiet ∷ w_none ∷ w_none ∷ []))

-- The desk's text for the example's input is the example's output.
pub example_worked : desk_of example_input ≡ example_text
unfolding desk_of report answers_text answer_text lines own_line iv_line iv_at bad_from widths_from pieces every same label_byte is_label digit spells is_width decimal_in hex_digit hex answers_in answers_by read_on opening decides stands fault checks_out bytes first symbol_at bits_from class_of check_of register_from step_of eight_shifts shift
example_worked = refl
