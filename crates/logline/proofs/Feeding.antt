-- What is handed over for a line means what the line means; and the laws of crate linecut on what is handed over. Assumes nothing.
use mathlib.Core.Path.{◌≡◌}
use mathlib.Core.List.{List}
use Prim.Native.Nat.{ℕ}
use lib.ListN.{length}
use borrow.Author.Tests.{le-leb, lt-leb, lt-ltb}
use Rattle.linecut.specs.Input.{given}
use Rattle.linecut.proofs.Feeding.{by_length}
use Rattle.logline.specs.Meaning.{meaning, meaning_of}
unfoldable pub use Rattle.linecut.proofs.Feeding.{fed}
pub use Rattle.linecut.proofs.Feeding.{holds_start, fed_lines, runs_lines, pushed_within, finished_within}

pub given_means : (l : List ℕ) → meaning_of (given l) ≡ meaning l
unfolding given
given_means l = by_length (length l) (λ k. rw (le-leb (length l) 512 k)) (λ k. rw (lt-leb (length l) 512 k, lt-ltb 512 (length l) k))
