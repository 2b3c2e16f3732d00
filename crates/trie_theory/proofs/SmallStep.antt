-- An addition at a node, leaf or inner, of which only the strings and the siblings change: what holds of its four outcomes
-- holds of it.
use mathlib.Core.Path.{◌≡◌, refl}
use mathlib.Core.Bool.{Bool, true, false, cond}
use Rattle.trie_theory.specs.Forest.{Strings, Key, Forest}
use Rattle.trie_theory.specs.Strings.{all_begin}
use Rattle.trie_theory.specs.Dimensions.{Above}
use Rattle.trie_theory.specs.SmallTrie.{meets, precedes, new_leaf, split, outcome}

-- x at the node with the strings s: `agreed` is the outcome where all strings agree, `later` the siblings with x added
abbrev pub placed : Above → (Strings → Forest → Forest) → Strings → Key → Forest → Forest → Forest → Forest
placed above node s x agreed more later =
    outcome above s (node s more) x.strings agreed (split above node s x more) (new_leaf x (node s more)) (node s later)

pub placed_cases : (P : Forest → Type 0) (above : Above) (node : Strings → Forest → Forest) (s : Strings) (x : Key)
    → (agreed more later : Forest)
    → (meets above s x.strings ≡ true → all_begin s x.strings ≡ true → P agreed)
    → (meets above s x.strings ≡ true → all_begin s x.strings ≡ false → P (split above node s x more))
    → (meets above s x.strings ≡ false → precedes above x.strings (node s more) ≡ true → P (new_leaf x (node s more)))
    → (meets above s x.strings ≡ false → precedes above x.strings (node s more) ≡ false → P (node s later))
    → P (placed above node s x agreed more later)
unfolding outcome
placed_cases P above node s x agreed more later a b c d =
    go (meets above s x.strings) refl (all_begin s x.strings) refl (precedes above x.strings (node s more)) refl
  where
    go : (m : Bool) → meets above s x.strings ≡ m → (g : Bool) → all_begin s x.strings ≡ g
        → (h : Bool) → precedes above x.strings (node s more) ≡ h
        → P (cond m (cond g agreed (split above node s x more)) (cond h (new_leaf x (node s more)) (node s later)))
    go true p true q h r = a p q
    go true p false q h r = b p q
    go false p g q true r = c p r
    go false p g q false r = d p r
