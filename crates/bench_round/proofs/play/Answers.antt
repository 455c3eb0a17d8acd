-- `bench_round::play` meets its contract: the opening, the SOF, the bits and the closing end, laid one after the other.
use native.Mathlib.Omega.{arith}
use mathlib.Core.Path.{sym, ◌∙◌}
use Rattle.std.proofs.Common.{length-take-le}
use lib.ListN.{length-set}
use Rattle.bench_round.specs.Playing.{few_bits, words_are, mid_length, time_bound, answer_is, sum_same, time_fits}
use borrow.Author.Rules.{rules}
use Rattle.bench_round.proofs.play.Goals as goal

pub bounds-words-1 : goal.bounds-words-1
bounds-words-1 c = simp length-set (omega (arith, c.requires.2))

pub overflow_add-closing : goal.overflow_add-closing
overflow_add-closing c =
    let r = c.requires in
    let s = c.contend-contended.ensures in
    omega (arith, few_bits c.args.at (search rules) r.0 c.args.sof r.1 c.args.words.now r.2 _ _ s)

pub offset_bounds-words-closing : goal.offset_bounds-words-closing
offset_bounds-words-closing c =
    let r = c.requires in
    let s = c.contend-contended.ensures in
    omega (arith, few_bits c.args.at (search rules) r.0 c.args.sof r.1 c.args.words.now r.2 _ _ s)

pub slice_bounds-sum-end : goal.slice_bounds-sum-end
slice_bounds-sum-end c =
    let r = c.requires in
    let s = c.contend-contended.ensures in
    simp length-set (omega (
      arith,
      r.2,
      few_bits c.args.at (search rules) r.0 c.args.sof r.1 c.args.words.now r.2 _ _ s,
      mid_length c.args.at (search rules) r.0 c.args.sof r.1 c.args.words.now r.2 _ _ s,
    ))

pub slice_bounds-sum-end-2 : goal.slice_bounds-sum-end-2
slice_bounds-sum-end-2 c =
    let r = c.requires in
    let s = c.contend-contended.ensures in
    let few = few_bits c.args.at (search rules) r.0 c.args.sof r.1 c.args.words.now r.2 _ _ s in
    let long = mid_length c.args.at (search rules) r.0 c.args.sof r.1 c.args.words.now r.2 _ _ s in
    sym (length-take-le _ _ (simp length-set (omega (arith, r.2, few, long))))

pub bounds-words-closing : goal.bounds-words-closing
bounds-words-closing c =
    let r = c.requires in
    let s = c.contend-contended.ensures in
    omega (
      arith,
      r.2,
      few_bits c.args.at (search rules) r.0 c.args.sof r.1 c.args.words.now r.2 _ _ s,
      mid_length c.args.at (search rules) r.0 c.args.sof r.1 c.args.words.now r.2 _ _ s,
    )

pub overflow_add-count : goal.overflow_add-count
overflow_add-count c =
    let r = c.requires in
    let s = c.contend-contended.ensures in
    omega (arith, few_bits c.args.at (search rules) r.0 c.args.sof r.1 c.args.words.now r.2 _ _ s)

pub sum-time-requires : goal.sum-time-requires
sum-time-requires c =
    let r = c.requires in
    let s = c.contend-contended.ensures in
    time_fits _ (time_bound c.args.at (search rules) r.0 c.args.sof r.1 c.args.words.now r.2 _ _ s)

pub shape_of-words : goal.shape_of-words
shape_of-words c =
    let r = c.requires in
    let s = c.contend-contended.ensures in
    simp length-set (mid_length c.args.at (search rules) r.0 c.args.sof r.1 c.args.words.now r.2 _ _ s)

pub returns : goal.returns
returns c =
    let r = c.requires in
    let s = c.contend-contended.ensures in (
      answer_is c.args.at (search rules) r.0 c.args.sof r.1 c.args.words.now r.2 _ _ s _ (c.sum-time.ensures ∙ sum_same _),
      words_are c.args.at (search rules) r.0 c.args.sof r.1 c.args.words.now r.2 _ _ s,
    )
