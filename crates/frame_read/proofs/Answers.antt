-- Reading from a position within the recording: quiet, where nothing opens or no interval follows, and otherwise what is decided.
use Prim.Native.Nat.{ℕ, ◌+◌, ◌≤◌, ◌<◌}
use mathlib.Core.Path.{◌≡◌, refl}
use mathlib.Core.List.{List}
use lib.ListN.{length}
use borrow.Author.Tests.{le-leb, lt-leb}
use Rattle.std.specs.Prelude.{Some, None}
use Rattle.frame.specs.declared.Reading.{Reading}
use Rattle.frame.specs.declared.Reading.TheVariants.{Quiet}
use Rattle.frame.specs.Line.{single, opening}
use Rattle.frame.specs.Faults.{most_bytes}
use Rattle.frame.specs.Reading.{decided, read_by}
use Rattle.frame_read.specs.Answering.{found_by, placed, Meets}
use Rattle.frame_read.proofs.Searching.{opened_at, opened_none}

module _ (ws : List ℕ) (p : ℕ) (entry : List ℕ) where
  pub quiet_meets : None ≡ found_by (opening (single ws) p) → Meets (read_by (opening (single ws) p) most_bytes (single ws) p) entry entry (Quiet (placed p))
  quiet_meets e = rw (opened_none ws p e) (record { tells_it = refl; lends_it = refl })

  pub alone_meets : (o : ℕ) → Some o ≡ found_by (opening (single ws) p) → length ws ≤ o + 1
      → Meets (read_by (opening (single ws) p) most_bytes (single ws) p) entry entry (Quiet (placed p))
  alone_meets o e h = rw (opened_at ws p o e, le-leb (length ws) (o + 1) h) (record { tells_it = refl; lends_it = refl })

  pub followed_meets : (o : ℕ) (exit : List ℕ) (r : Reading) → Some o ≡ found_by (opening (single ws) p) → o + 1 < length ws
      → Meets (decided most_bytes (single ws) o) entry exit r → Meets (read_by (opening (single ws) p) most_bytes (single ws) p) entry exit r
  followed_meets o exit r e h v = rw (opened_at ws p o e, lt-leb (length ws) (o + 1) h) v
