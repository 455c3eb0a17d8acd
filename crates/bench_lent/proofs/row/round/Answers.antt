-- `bench_lent::round` meets its contract: what the held row answers and leaves, put back.
use Rattle.std.specs.Prelude.{Ok, Err}
use Rattle.std.proofs.lemmas.Result.{err_from_is_err_and}
use Rattle.bench_lent.specs.LentRound.{round_kept}
use Rattle.bench_lent.proofs.row.round.Goals as goal

pub returns-in_err-played : goal.returns-in_err-played
returns-in_err-played c =
    let a = c.args in
    let p = err_from_is_err_and c.from_residual.result c.from_residual.ensures.1 in
    rw (p.1, p.2) (round_kept a.row.now a.words.now _ c.gathered.ensures _ (Err _) c.in_err-played.ensures)

pub returns : goal.returns
returns c = let a = c.args in rw c.put_back.ensures (round_kept a.row.now a.words.now _ c.gathered.ensures _ (Ok _) c.in_ok-played.ensures)
