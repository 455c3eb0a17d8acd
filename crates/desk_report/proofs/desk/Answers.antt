-- `desk_report::desk` meets its promise: a law of `Wholes` for each way out.
use Rattle.desk_report.proofs.Wholes.{few_lent, words_enough, bytes_enough, widths_inside, labels_within, report_space, desk_reports, refusal_space, desk_refuses, not_few}
use mathlib.Core.Path.{sym}
use lib.Seq.{length-take-le}
use borrow.Author.Rules.{rules}
use Rattle.desk_report.proofs.desk.Goals as goal

pub returns-then-too_little : goal.returns-then-too_little
returns-then-too_little c = search (rules, few_lent)

pub slice_bounds-put_report-end : goal.slice_bounds-put_report-end
slice_bounds-put_report-end c = widths_inside c.args.input.now c.args.words.now (search (rules, words_enough)) c.in-Ok.is c.judge.ensures

pub slice_bounds-put_report-end-in-Ok : goal.slice_bounds-put_report-end-in-Ok
slice_bounds-put_report-end-in-Ok c = sym (length-take-le _ _ (widths_inside c.args.input.now c.args.words.now (search (rules, words_enough)) c.in-Ok.is c.judge.ensures))

pub put_report-length-requires : goal.put_report-length-requires
put_report-length-requires c = record {
  within = labels_within c.args.input.now c.args.words.now (search (rules, words_enough)) c.in-Ok.is c.judge.ensures;
  space = report_space c.args.input.now c.args.words.now (search (rules, words_enough)) c.in-Ok.is c.judge.ensures (search (rules, bytes_enough));
}

pub put_refusal-length-requires : goal.put_refusal-length-requires
put_refusal-length-requires c = refusal_space c.args.input.now c.args.words.now (search (rules, words_enough)) (rw c.in-Err-Bad.field-0-is at c.in-Err-Bad.is) c.judge.ensures (search (rules, bytes_enough))

pub returns-in-Ok : goal.returns-in-Ok
returns-in-Ok c = desk_reports c.args.input.now c.args.words.now (search (rules, words_enough)) c.in-Ok.is c.judge.ensures (search (rules, bytes_enough)) c.put_report-length.ensures

pub returns-in-Err-Bad : goal.returns-in-Err-Bad
returns-in-Err-Bad c = desk_refuses c.args.input.now c.args.words.now (search (rules, words_enough)) (rw c.in-Err-Bad.field-0-is at c.in-Err-Bad.is) c.judge.ensures (search (rules, bytes_enough)) c.put_refusal-length.ensures

pub returns-in-Err-FewLentWords : goal.returns-in-Err-FewLentWords
returns-in-Err-FewLentWords c = not_few c.args.input.now c.args.words.now (search (rules, words_enough)) (rw c.in-Err-FewLentWords.field-0-is at c.in-Err-FewLentWords.is) c.judge.ensures
