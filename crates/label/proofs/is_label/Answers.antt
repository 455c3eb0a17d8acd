-- `label::is_label` meets its contract: where the length is good, the test of each byte decides.
use Rattle.std.proofs.Common.{rules, tests}
use Rattle.std.proofs.lemmas.Iterator.{YieldsList-from_slice}
use Rattle.std.proofs.lemmas.Iterator.Search.{all_from_yields_List}
use Rattle.label.specs.Labels.{label_byte}
use Rattle.label.proofs.Leaves.{length_good}
use Rattle.label.proofs.is_label.Goals as goal

pub returns-then-contains : goal.returns-then-contains
returns-then-contains c =
    let s = c.args.s.now in
    length_good s (search rules) (all_from_yields_List label_byte _ _ _ c.all.ensures.ran (YieldsList-from_slice s cc) (λ x b q k. search (rules, tests)))
