-- `bench_lent::load` meets its contract: what the held row answers and leaves, put back.
use Rattle.std.specs.Prelude.{Ok, Err}
use Rattle.std.proofs.lemmas.Result.{err_from_is_err_and}
use Rattle.bench_lent.specs.Lent.{load_kept}
use Rattle.bench_lent.proofs.row.load.Goals as goal

pub returns-in_err-next : goal.returns-in_err-next
returns-in_err-next c =
    let a = c.args in
    let p = err_from_is_err_and c.from_residual.result c.from_residual.ensures.1 in
    rw (p.1, p.2) (load_kept a.row.now _ c.gathered.ensures a.place a.message.now (Err _) c.in_err-next.ensures)

pub returns : goal.returns
returns c = let a = c.args in rw c.put_back.ensures (load_kept a.row.now _ c.gathered.ensures a.place a.message.now (Ok _) c.in_ok-next.ensures)
