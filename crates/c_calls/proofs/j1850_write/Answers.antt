-- `c_calls::j1850_write` gives what the room below promises of the message, and turns away a kind that is none of the three.
use Rattle.std.proofs.Common.{◌≤◌, ◌∙◌, arith}
use Rattle.c_calls.proofs.ByKind.{written_as}
use Rattle.c_calls.proofs.j1850_write.Goals as goal

pub returns-clause-value : goal.returns-clause-value
returns-clause-value c =
    let a = c.args in
    let few : a.kind ≤ 2 = omega arith in
    c.from.ensures ∙ (written_as a.clock a.main.now a.kind a.response.now a.words.now c.write.new.lent c.write.result c.kind_of-kind.result c.kind_of-kind.ensures few c.write.ensures).0

pub returns-clause-words_after : goal.returns-clause-words_after
returns-clause-words_after c =
    let a = c.args in
    let few : a.kind ≤ 2 = omega arith in
    (written_as a.clock a.main.now a.kind a.response.now a.words.now c.write.new.lent c.write.result c.kind_of-kind.result c.kind_of-kind.ensures few c.write.ensures).1
