-- Laws.
-- What a round that is not turned away puts on the line: the winner's bits, in the sending windows, for every choice of good
-- clocks; at most 101 words, and at most 14,438 µs of line time.
use Rattle.std.specs.Prelude.{ℕ, ◌≡◌, true, false, List, [], ◌∷◌, length, take, drop}
use Rattle.std.proofs.Common.{sym, ap, ◌∙◌, arith, length-append}
use Rattle.std.proofs.Math.Seq.{take-append_seam}
use Rattle.bench.specs.declared.Station.{Station}
use Rattle.bench.specs.Round.{round_of}
use Rattle.bench.specs.Calls.{round, taken, lent_after}
use Rattle.bench.specs.RoundStated.{Carried, winner_of, OnTheLine}
use Rattle.bench.proofs.RoundLaws.{carried_length}
use Rattle.bench.proofs.RowLaws.{goes_first, row_comes}
use Rattle.bench.specs.Taken.{round_taken}
use Rattle.bench.proofs.Fates.{winner_some}

module _ (lent : List ℕ) (row : List Station) (t : taken (round lent) row ≡ true) where
  -- THE LINE of a round.
  pub on_the_line : OnTheLine row
  on_the_line =
      let r = round_taken lent row t in
      let c = row_comes row r.passed.sound in
      let line : Carried false (winner_of row) c.widths = rw (goes_first row) at c.line in
      record {
        sof = c.sof;
        widths = c.widths;
        words = c.words;
        sof_window = c.sof_window (λ e. winner_some row r.passed.sound r.somebody (sym (goes_first row) ∙ e));
        line = line;
        number = ap length c.words ∙ omega (arith, length-append c.widths (300 ∷ []), carried_length line);
        few = c.few;
        time = c.time;
        bound = c.bound;
      }

  -- The words stand first in those lent, and no other word changes.
  pub words_first : take (length (round_of row).words) (lent_after row lent) ≡ (round_of row).words
  unfolding lent_after
  words_first = rw t (take-append_seam (round_of row).words (drop (length (round_of row).words) lent))
