-- Laws.
-- Both theorems of demand 2 together: a good frame that was read, written again at the nominal clock, is read as the same frame.
use Rattle.std.specs.Prelude.{ℕ, ◌+◌, ◌-◌, ◌%◌, ◌≤◌, ◌≡◌, List, ◌++◌, length}
use Rattle.std.proofs.Common.{ap, arith}
use Rattle.symbol.specs.Clocks.{nominal_clock}
use Rattle.symbol.specs.SendingLaws.{nominal_good}
use Rattle.frame.specs.Faults.{most_bytes}
use Rattle.frame.specs.Reading.{Good, good, reading}
use Rattle.frame.specs.Nominal.{without_check, nominal_intervals, response_bare}
use Rattle.frame.proofs.WrittenBack.{reads_written}
use Rattle.frame.proofs.Again.{written_again}
use Rattle.frame.specs.WriteStated.{WrittenAgain}
use Rattle.frame.specs.ReadStated.{put_at}

-- A good frame's intervals at nominal widths, put anywhere on a line, are read as the same parts and the same kind of response,
-- over as many intervals.
pub reads_again : (ws : List ℕ) (p lent : ℕ) (f : Good) (before after : List ℕ) (bytes_lent : ℕ) → reading ws p lent ≡ good f → length before % 2 ≡ 0
    → most_bytes ≤ bytes_lent → reading (before ++ (nominal_intervals ws f.opening f.next ++ after)) (length before) bytes_lent ≡ good (put_at f (length before))
reads_again ws p lent f before after bytes_lent e even h = go (written_again ws p lent f e)
  where
    go : WrittenAgain ws f → reading (before ++ (nominal_intervals ws f.opening f.next ++ after)) (length before) bytes_lent ≡ good (put_at f (length before))
    go a =
        let last : length before + length (nominal_intervals ws f.opening f.next) - 1 ≡ length before + (f.next - f.opening) = omega (arith, a.as_many, ap length a.same_words) in
        rw (← last)
        (rw (a.same_words, a.main_again, a.response_again) at (reads_written nominal_clock before after (without_check f.main) f.kind (response_bare f.kind f.response) bytes_lent nominal_good a.is_admitted a.main_bytes_law a.response_bytes_law even h))
