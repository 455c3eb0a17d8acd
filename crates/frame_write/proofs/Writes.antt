-- How the tests of a call that writes decide its promise: a law for each way out, in the order of the refusals.
use Rattle.std.specs.Prelude.{ℕ, ◌≡◌, refl, Bool, true, false, Result, Ok, Err, List, length, ltb}
use Rattle.std.proofs.Common.{sym, ap, ◌∙◌, arith}
use borrow.Author.Tests.{ltb-true, ltb-false}
use Rattle.symbol.specs.declared.Clock.{Clock}
use Rattle.symbol.specs.Clocks.{good_of}
use Rattle.frame.specs.declared.Response.{Response}
use Rattle.frame.specs.declared.WriteRefusal.{WriteRefusal}
use Rattle.frame.specs.declared.WriteRefusal.TheVariants.{BadClock, BadMessage, FewLentWords}
use Rattle.frame.specs.Writing.{Sheet, words, turned_away, writing, frame_words, bad_message, most_words}
use Rattle.frame.specs.WritePromise.{counted, counts, words_after, WritePromise}
use Rattle.frame.proofs.WidthLaws.{admitted_words}
use Rattle.frame.proofs.WriteExactlyWhen.{writes_36, writes_37, writes_32, writes_words}
use Rattle.frame_write.specs.Laid.{Fits, Lays}

module _ (c : Clock) (main : List ℕ) (kind : Response) (rs entry : List ℕ) where
  -- what writing comes to settles the promise
  promised : (s : Sheet) (exit : List ℕ) (answer : Result ℕ WriteRefusal) → writing c main kind rs (length entry) ≡ s
      → counted answer ≡ counts s → exit ≡ words_after s entry → WritePromise c main kind rs entry exit answer
  promised s exit answer e p q =
      record { counts_it = p ∙ ap counts (sym e); lends_it = q ∙ ap (λ (x : Sheet). words_after x entry) (sym e) }

  module _ {good : Bool} (g : good ≡ good_of c) where
    pub refuses_36 : good ≡ false → WritePromise c main kind rs entry entry (Err BadClock)
    refuses_36 h = promised (turned_away 36) entry (Err BadClock) (writes_36 c main kind rs (length entry) (sym g ∙ h)) refl refl

    module _ (fine : good ≡ true) {bad : Bool} (b : bad ≡ bad_message main kind rs) where
      pub refuses_37 : bad ≡ true → WritePromise c main kind rs entry entry (Err BadMessage)
      refuses_37 h = promised (turned_away 37) entry (Err BadMessage) (writes_37 c main kind rs (length entry) (sym g ∙ fine) (sym b ∙ h)) refl refl

      module _ (admitted : bad ≡ false) {few : Bool} (f : few ≡ ltb (length entry) most_words) where
        pub refuses_32 : few ≡ true → WritePromise c main kind rs entry entry (Err FewLentWords)
        refuses_32 h =
            promised (turned_away 32) entry (Err FewLentWords)
            (writes_32 c main kind rs (length entry) (sym g ∙ fine) (sym b ∙ admitted) (ltb-true (length entry) most_words (sym f ∙ h))) refl refl

        pub writes : few ≡ false → {n : ℕ} {exit : List ℕ} → Lays (frame_words c main kind rs) entry exit n
            → WritePromise c main kind rs entry exit (Ok n)
        writes h {n} {exit} laid =
            promised (words (frame_words c main kind rs)) exit (Ok n)
            (writes_words c main kind rs (length entry) (sym g ∙ fine) (sym b ∙ admitted) (ltb-false (length entry) most_words (sym f ∙ h)))
            (ap (λ (k : ℕ). counted (Ok k)) laid.counted) laid.laid

-- The frame of an admitted message has space in words enough.
pub space : (c : Clock) (main : List ℕ) (kind : Response) (rs entry : List ℕ) {bad few : Bool} → bad ≡ bad_message main kind rs → bad ≡ false
    → few ≡ ltb (length entry) most_words → few ≡ false → Fits (frame_words c main kind rs) entry
space c main kind rs entry b admitted f enough =
    omega (arith, admitted_words main rs c kind (sym b ∙ admitted), ltb-false (length entry) most_words (sym f ∙ enough))
