-- The number of a setup, by its two tests. Assumes nothing.
use mathlib.Core.Path.{◌≡◌, refl, sym, ap, ◌∙◌}
use mathlib.Core.Bool.{true, false}
use Prim.Native.Nat.{ℕ, suc, ◌≤◌, ◌<◌}
use mathlib.Core.List.{List}
use native.Mathlib.Omega.{arith}
use lib.ListN.{length}
use borrow.Author.Tests.{lt-ltb, le-ltb}
use Rattle.buffer.specs.Splice.{splice}
use Rattle.book.specs.Front.{in_limits, need}
use Rattle.book.specs.Book.{fresh}
use Rattle.book.specs.Replies.{reply, setup_number}
use Rattle.book.specs.Promises.{SetsUp}
use Rattle.book.specs.Image.{image}

module _ (m l t : ℕ) (s : List ℕ) where
  outside : in_limits m l t ≡ false → setup_number (length s) m l t ≡ 5
  unfolding setup_number
  outside e = rw e

  too_short : in_limits m l t ≡ true → length s < need m l → setup_number (length s) m l t ≡ 6
  unfolding setup_number
  too_short e h = rw (e, lt-ltb (length s) (need m l) h)

  fine : in_limits m l t ≡ true → need m l ≤ length s → setup_number (length s) m l t ≡ 0
  unfolding setup_number
  fine e h = rw (e, le-ltb (length s) (need m l) h)

  -- a number that is not 0 refuses
  refuses : (n : ℕ) → setup_number (length s) m l t ≡ suc n → SetsUp m l t s s (reply (suc n) 0 0)
  refuses n e = record { answers = ap (λ (k : ℕ). reply k 0 0) (sym e); refused = λ k h. refl; accepted = λ z. absurd (let y : suc n ≡ 0 = sym e ∙ z in omega arith) }

  pub refuses_5 : in_limits m l t ≡ false → SetsUp m l t s s (reply 5 0 0)
  refuses_5 e = refuses 4 (outside e)

  pub refuses_6 : (n : ℕ) → in_limits m l t ≡ true → n ≡ need m l → length s < n → SetsUp m l t s s (reply 6 0 0)
  refuses_6 n e q h = refuses 5 (too_short e (omega arith))

  pub accepts : (n : ℕ) (s' : List ℕ) → in_limits m l t ≡ true → n ≡ need m l → n ≤ length s → s' ≡ splice s 0 (image (fresh m l t)) → SetsUp m l t s s' (reply 0 0 0)
  accepts n s' e q h w =
      let z = fine e (omega arith) in
      record { answers = ap (λ (k : ℕ). reply k 0 0) (sym z); refused = λ k y. absurd (let x : 0 ≡ suc k = sym z ∙ y in omega arith); accepted = λ y. w }
