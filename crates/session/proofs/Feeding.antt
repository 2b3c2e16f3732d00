-- A line carried out, or none, and what was printed then. Assumes nothing.
use mathlib.Core.Path.{◌≡◌, refl, sym, ap, ◌∙◌}
use Prim.Native.Nat.{ℕ}
use mathlib.Core.List.{List, [], ◌∷◌, append-nil}
use native.Mathlib.Nat.{zero-add}
use native.Mathlib.Omega.{arith}
use lib.ListN.{length, take}
use lib.Seq.{take_at}
use Rattle.buffer.proofs.Splice.{splice_is}
use Rattle.logline.specs.Meaning.{Meaning}
use Rattle.logline.specs.Spelling.{Wrote}
use Rattle.session.specs.Printed.{printed, printed_all, next_all}
use Rattle.session.specs.Keeps.{Ran, RanAll, no_line, one_line}

-- the first bytes of what was written at the beginning
wrote_first : {out b filled : List ℕ} {n : ℕ} → Wrote out 0 b filled n → take n filled ≡ b
wrote_first {out} {b} {filled} {n} w = ap (take n) (w.is ∙ splice_is out 0 b) ∙ take_at b _ n (sym (w.ends ∙ zero-add (length b)))

pub ran_none : {store out : List ℕ} → RanAll [] store store out out 0
unfolding printed_all next_all
ran_none = record { short = omega arith; prints = λ b k. refl; keeps = λ b k. k; changes = no_line refl }

pub ran_one : {m : Meaning} {store after out filled : List ℕ} {n : ℕ} → Ran m store after out filled n → RanAll (m ∷ []) store after out filled n
unfolding printed_all next_all
ran_one {m} r = record { short = r.short; prints = λ b k. wrote_first (r.prints b k) ∙ sym (append-nil (printed b m)); keeps = r.keeps; changes = one_line r.changes }
