-- `volts_trace::some_unusable` meets its contract: the test of each sample is the rule of 35. Assumes nothing.
use Rattle.std.proofs.Common.{rules, tests, ◌∙◌}
use Rattle.std.proofs.lemmas.Iterator.{YieldsList-from_slice}
use Rattle.std.proofs.lemmas.Iterator.Search.{any_from_yields_List}
use Rattle.volts.specs.Judging.{judged}
use Rattle.volts.specs.Levels.{is_unusable}
use Rattle.volts_trace.proofs.Scanning.{any_unusable}
use Rattle.volts_trace.proofs.some_unusable.Goals as goal

pub returns : goal.returns
returns c =
    let s = c.args.samples.now in
    any_from_yields_List (λ x. is_unusable (judged c.args.gate x)) _ _ _ c.any.ensures.ran (YieldsList-from_slice s cc) (λ x b q k. search (rules, tests))
    ∙ any_unusable c.args.gate s
