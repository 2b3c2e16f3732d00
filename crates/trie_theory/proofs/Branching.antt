-- Laws of the branching byte: strings that begin with a node's have its byte, and what is passed by has another.
use Prim.Native.Nat.{ℕ, zero}
use mathlib.Core.Path.{◌≡◌, refl, sym, ◌∙◌}
use mathlib.Core.Bool.{true, false}
use mathlib.Core.List.{List, [], ◌∷◌}
use borrow.Author.Tests.{eqb-true, eqb-false, ne_eqb}
use Rattle.trie_theory.specs.Forest.{Strings}
use Rattle.trie_theory.specs.Strings.{at, first}
use Rattle.trie_theory.specs.Dimensions.{Above, root, below, branching}
use Rattle.trie_theory.specs.SmallTrie.{meets}
use Rattle.trie_theory.specs.Sound.{Starts}
use Rattle.trie_theory.proofs.Prefix.{Prefix, Prefixes, prefixes_at}
use Rattle.trie_theory.proofs.Strings.{first_at}

prefix_first : (p s : List ℕ) → Prefix p s → (p ≡ [] → ⊥) → first zero (p ∷ []) ≡ first zero (s ∷ [])
unfolding Prefix first
prefix_first [] s h n = absurd (n refl)
prefix_first (a ∷ p) [] h n = absurd h
prefix_first (a ∷ p) (b ∷ s) h n = h.0

pub branching_prefix : (above : Above) (p s : Strings) → Starts above p → Prefixes p s → branching above p ≡ branching above s
unfolding branching Starts
branching_prefix root p s h f = refl
branching_prefix (below d) p s h f = first_at d p ∙ prefix_first (at d p) (at d s) (prefixes_at d p s f) h ∙ sym (first_at d s)

-- the test of the byte is right
pub meets_true : (above : Above) (s k : Strings) → meets above s k ≡ true → branching above s ≡ branching above k
unfolding meets
meets_true above s k e = eqb-true (branching above s) (branching above k) e

pub meets_false : (above : Above) (s k : Strings) → meets above s k ≡ false → branching above s ≡ branching above k → ⊥
unfolding meets
meets_false above s k e = eqb-false (branching above s) (branching above k) e

pub meets_apart : (above : Above) (s k : Strings) → (branching above s ≡ branching above k → ⊥) → meets above s k ≡ false
unfolding meets
meets_apart above s k e = ne_eqb (branching above s) (branching above k) e
