-- A field of a line: there, or lost because no comma follows. Assumes nothing.
use mathlib.Core.Path.{◌≡◌, refl, sym}
use Rattle.std.proofs.Common.{Option, Some, None}
use mathlib.Core.Bool.{Bool, true, false, cond}
use mathlib.Core.List.{List}
use Prim.Native.Nat.{ℕ, ◌+◌, ◌<◌}
use native.Mathlib.Omega.{arith}
use lib.ListN.{length, take, drop}
use borrow.Author.Tests.{lt-ltb, le-ltb}
use Rattle.linefields.specs.Fields.{width}
use Rattle.logline.specs.Meaning.{Meaning, with_field, with_number, Says}
use Rattle.logline.specs.Meaning.Meaning.{misread, addition, searching}
use Rattle.logline.specs.declared.command.Command.{Command}

module _ (s : List ℕ) where
  pub field_there : (e : ℕ) → width s ≡ e → e < length s → (k : List ℕ → List ℕ → Meaning) → with_field s k ≡ k (take e s) (drop (e + 1) s)
  unfolding with_field
  field_there e w h k = rw (w, lt-ltb e (length s) h)

  pub field_lost : width s ≡ length s → (k : List ℕ → List ℕ → Meaning) → with_field s k ≡ misread
  unfolding with_field
  field_lost w k = rw (w, le-ltb (length s) (length s) (omega arith))

-- nothing was read, where that is what the line means
pub misreads : {m : Meaning} {r : Option Command} → r ≡ None → m ≡ misread → Says m r
misreads e f = rw e (record { means = sym f })

-- the test of a reference, and the reference
pub no_reference : (t : Bool) (x : List ℕ) (m : Meaning) → ◌≡◌ {A = Option (List ℕ)} None (cond t (Some x) None) → cond t m misread ≡ misread
no_reference true x m e = cc
no_reference false x m e = refl

pub a_reference : (t : Bool) (x r : List ℕ) (k : List ℕ → Meaning) → Some r ≡ cond t (Some x) None → cond t (k x) misread ≡ k r
a_reference true x r k e =
    let f : r ≡ x = cc in
    rw f
a_reference false x r k e = cc

-- the last number, and what remains for a path or a pattern
pub last_number : (o r : Option ℕ) (k : ℕ → Meaning) → r ≡ o → with_number o k ≡ with_number r k
last_number o r k e = rw e

pub added : (value : ℕ) (reference p path : List ℕ) → p ≡ path → addition value reference p ≡ addition value reference path
added value reference p path e = rw e

pub sought : (low high : ℕ) (p pattern : List ℕ) → p ≡ pattern → searching low high p ≡ searching low high pattern
sought low high p pattern e = rw e
