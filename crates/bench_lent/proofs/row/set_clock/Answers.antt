-- `bench_lent::set_clock` meets its contract: what the held row answers and leaves, put back.
use Rattle.std.specs.Prelude.{Ok, Err}
use Rattle.std.proofs.lemmas.Result.{err_from_is_err_and}
use Rattle.bench_lent.specs.Lent.{clock_kept}
use Rattle.bench_lent.proofs.row.set_clock.Goals as goal

pub returns-in_err-next : goal.returns-in_err-next
returns-in_err-next c =
    let a = c.args in
    let p = err_from_is_err_and c.from_residual.result c.from_residual.ensures.1 in
    rw (p.1, p.2) (clock_kept a.row.now _ c.gathered.ensures a.place a.clock (Err _) c.in_err-next.ensures)

pub returns : goal.returns
returns c = let a = c.args in rw c.put_back.ensures (clock_kept a.row.now _ c.gathered.ensures a.place a.clock (Ok _) c.in_ok-next.ensures)
