-- What writing comes to, by the number of the kind: one of the three, or none.
use Prim.Native.Nat.{ℕ, ◌≤◌, ◌<◌}
use mathlib.Core.Path.{◌≡◌, refl, ap}
use mathlib.Core.Bool.{Bool, true, false, cond, not}
use mathlib.Core.List.{List}
use Rattle.std.specs.Prelude.{Result}
use lib.ListN.{length}
use borrow.Author.Tests.{lt-ltb, le-ltb}
use Rattle.symbol.specs.Clocks.{good_of}
use Rattle.symbol.specs.declared.Clock.{Clock}
use Rattle.frame.specs.declared.Response.{Response}
use Rattle.frame.specs.declared.WriteRefusal.{WriteRefusal}
use Rattle.frame.specs.Writing.{turned_away, writing}
use Rattle.frame.specs.WritePromise.{counted, counts, words_after, WritePromise}
use Rattle.frame_numbers.specs.Numbers.{kind_of}
use Rattle.c_frame_answers.specs.declared.Counted.{Counted}
use Rattle.c_frame_answers.specs.Answers.{no_such_kind, sheet_of, counted_as}

module _ (c : Clock) (main : List ℕ) (kind : ℕ) (rs : List ℕ) (lent : ℕ) where
  pub no_kind : 2 < kind → sheet_of c main kind rs lent ≡ no_such_kind c
  unfolding sheet_of
  no_kind h = rw (lt-ltb 2 kind h)

  pub a_kind : kind ≤ 2 → sheet_of c main kind rs lent ≡ writing c main (kind_of kind) rs lent
  unfolding sheet_of
  a_kind h = rw (le-ltb 2 kind h)

-- What the room below promises of one of the three kinds is what is promised here.
pub written_as : (c : Clock) (main : List ℕ) (kind : ℕ) (rs entry exit : List ℕ) (answer : Result ℕ WriteRefusal) (asked : Response)
    → asked ≡ kind_of kind → kind ≤ 2 → WritePromise c main asked rs entry exit answer
    → (counted_as (counted answer) ≡ counted_as (counts (sheet_of c main kind rs (length entry)))) × (exit ≡ words_after (sheet_of c main kind rs (length entry)) entry)
written_as c main kind rs entry exit answer asked ek h p =
    let same : sheet_of c main kind rs (length entry) ≡ writing c main asked rs (length entry) = rw (a_kind c main kind rs (length entry) h, ek) in
    (rw same (ap counted_as p.counts_it), rw same p.lends_it)

-- a kind that is none changes nothing, whatever the clock
kept : (bad : Bool) (lent : List ℕ) → lent ≡ words_after (cond bad (turned_away 36) (turned_away 37)) lent
kept true lent = refl
kept false lent = refl

pub no_kind_kept : (c : Clock) (lent : List ℕ) → lent ≡ words_after (no_such_kind c) lent
no_kind_kept c lent = kept (not (good_of c)) lent

-- What is said of a kind that is none: the numbers, and the lent words as they were.
pub no_kind_told : (c : Clock) (main : List ℕ) (kind : ℕ) (rs : List ℕ) (lent : ℕ) (r : Counted)
    → 2 < kind → r ≡ counted_as (counts (no_such_kind c)) → r ≡ counted_as (counts (sheet_of c main kind rs lent))
no_kind_told c main kind rs lent r h e = rw (no_kind c main kind rs lent h) e

pub no_kind_words : (c : Clock) (main : List ℕ) (kind : ℕ) (rs lent : List ℕ) → 2 < kind → lent ≡ words_after (sheet_of c main kind rs (length lent)) lent
no_kind_words c main kind rs lent h = rw (no_kind c main kind rs (length lent) h) (no_kind_kept c lent)
