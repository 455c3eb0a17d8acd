use Rattle.std.proofs.Common.{rules}
use Rattle.bench.specs.declared.Fared.TheVariants.{Idle}
use Rattle.bench.specs.Round.{verdict_of}
use Rattle.c_bench_answers.specs.Answers.{verdict_as}
use Rattle.c_bench_answers.proofs.Verdicts.{mapped}
use Rattle.c_bench_answers.proofs.verdicts_as.Goals as goal

pub returns : goal.returns
returns c =
    let k = c.map.ensures.items in
    mapped verdict_as _ _ (verdict_of Idle) (search rules) (λ i e h. let q = k.at i (verdict_of Idle) e (search rules) in let s = q.2 in search rules)
