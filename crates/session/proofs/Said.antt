-- The reply that is made of a result, and the one that the result says. Assumes nothing.
use mathlib.Core.Path.{◌≡◌, subst}
use Prim.Native.Nat.{ℕ}
use mathlib.Core.List.{List}
use Rattle.std.specs.Prelude.{Result, Ok, Err, MatchResult}
use Rattle.book.specs.Replies.{Reply}
use Rattle.logline.specs.Spelling.{Wrote}
use Rattle.session.specs.Printed.{reply_line}
use Rattle.store.specs.Said.{refused, said}
use Rattle.store.specs.declared.refusal.Refusal.{Refusal}

-- what was written for the one was written for the other
pub same_line : {out filled : List ℕ} {at n : ℕ} {r r' : Reply} → r ≡ r' → Wrote out at (reply_line r) filled n → Wrote out at (reply_line r') filled n
same_line {out} {filled} {at} {n} e w = subst (λ (x : Reply). Wrote out at (reply_line x) filled n) e w

pub said_line : {A : Type 0} {out filled : List ℕ} {at n : ℕ} (accepted : A → Reply) (r : Reply) (o : Result A Refusal)
    → MatchResult o (λ x. r ≡ accepted x) (λ e. r ≡ refused e) → Wrote out at (reply_line r) filled n → Wrote out at (reply_line (said accepted o)) filled n
said_line accepted r (Ok x) e w = same_line e w
said_line accepted r (Err x) e w = same_line e w
