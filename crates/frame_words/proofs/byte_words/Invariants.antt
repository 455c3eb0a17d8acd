use Rattle.std.proofs.Common.{◌≡◌, ℕ, ◌<◌, get_or}
use Rattle.frame_words.proofs.Bits.{width_at}
use Rattle.frame_words.proofs.byte_words.Given as goal

abbrev pub invariant-loop-i : goal.invariant-loop-i
invariant-loop-i l = (k : ℕ) → k < l.i → get_or l.word-items k 0 ≡ width_at l.clock l.b k
