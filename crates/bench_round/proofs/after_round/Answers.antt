-- `bench_round::after_round` meets its contract: the stations are seen to, place by place.
use Rattle.std.proofs.Common.{rules, ap, List}
use Rattle.bench.specs.declared.Station.{Station}
use Rattle.bench_row.specs.declared.HeldRow.{HeldRow}
use Rattle.bench_round.specs.Playing.{settle_start, settle_more, settle_all}
use Rattle.bench_round.proofs.after_round.Goals as goal

pub loop-i-init : goal.loop-i-init
loop-i-init c = settle_start _ _ (search rules) (search rules)

pub loop-i-preserved : goal.loop-i-preserved
loop-i-preserved c = settle_more c.loop-i.invariant c.loop-i-test.true _ _ _ c.after_verdict.ensures

pub returns : goal.returns
returns c =
    ap (λ (at : List Station). let b : HeldRow = record { at = at; count = c.args.held.count } in b)
    (settle_all c.loop-i.invariant c.loop-i-test.false)
