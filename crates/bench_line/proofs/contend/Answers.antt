-- `bench_line::contend` meets its contract: nobody sends over too few words, and all do over enough.
use Rattle.bench_line.specs.ContendLaws.{nobody_sends, all_send}
use Rattle.bench_line.proofs.contend.Goals as goal

pub returns-then-words-lt-MOST_WORDS : goal.returns-then-words-lt-MOST_WORDS
returns-then-words-lt-MOST_WORDS c = nobody_sends _ _ c.if-words-lt-MOST_WORDS.true _ c.nobody.ensures

pub returns : goal.returns
returns c = all_send _ _ _ c.if-words-lt-MOST_WORDS.false _ c.contend_on.ensures
