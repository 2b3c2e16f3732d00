-- The small trie: an addition walks down while strings agree, and splits a node whose strings differ from the key.
-- The three additions of document 01's listing, $ the end byte:
--
--   7 /north/pond    (00 00 00 00 00 00 00 07, /north/pond$)
--
--   7 /north/edge    (00 00 00 00 00 00 00 07, /north/) path
--                     |- e  (, edge$)
--                     |- p  (, pond$)
--
--   9 /south/edge    (00 00 00 00 00 00 00, /) V
--                     |- 07  (07, north/) path
--                     |       |- e  (, edge$)
--                     |       |- p  (, pond$)
--                     |- 09  (09, south/edge$)
use Rattle.std.specs.Prelude.{ℕ, Bool, cond, List, [], ◌∷◌, ◌++◌, length, eqb, ltb}
use Rattle.std.proofs.Math.Option.{Option, some}
use Rattle.buffer.specs.Lists.{all}
use Rattle.trie_theory.specs.Forest.{Strings, Key, Forest, none, leaf, inner, tops}
use Rattle.trie_theory.specs.Strings.{all_begin, commons, strip, remains, at, first}
use Rattle.trie_theory.specs.Dimensions.{Above, root, below, turn, branching}

-- a key with the strings k belongs to a node with the strings s: it has the node's branching byte (at the root always)
unfoldable pub meets : Above → Strings → Strings → Bool
meets above s k = eqb (branching above s) (branching above k)

-- the branching byte of s is below those of all tries side by side
unfoldable pub precedes : Above → Strings → Forest → Bool
precedes above s f = all (λ t. ltb (branching above s) (branching above t)) (tops f)

-- a leaf with all bytes of the key: nothing remains for its suffix but the reference
unfoldable pub new_leaf : Key → Forest → Forest
new_leaf x more = leaf x.strings (remains x.strings x ∷ []) more

-- the two children of a new parent that branches in d, ascending: the old node, with s left, and a new leaf for x
unfoldable pub two : ℕ → (Strings → Forest → Forest) → Strings → Key → Forest
two d node s x = cond (ltb (first d x.strings) (first d s)) (new_leaf x (node s none)) (node s (new_leaf x none))

-- what was sought; there is always one where it is asked for
unfoldable pub chosen : Option ℕ → ℕ
chosen Option.none = 0
chosen (some d) = d

-- the dimension of a new parent over a node with s left: the first, from the wanted one on, in which it differs
unfoldable pub differing : Above → Strings → ℕ
differing above s = chosen (turn (λ d. ltb 0 (length (at d s))) (length s) above)

-- A node with the strings s that differ from those of x: a new parent takes the bytes before the first difference in each
-- dimension, or all where none differs; the old node and a new leaf keep the rest
unfoldable pub split : Above → (Strings → Forest → Forest) → Strings → Key → Forest → Forest
split above node s x more =
    let p = commons s x.strings in
    let d = differing above (strip p s) in
    inner d p (two d node (strip p s) (remains p x)) more

-- The outcomes for a key with the strings k at a node with the strings s, the first of the tries f: it has the node's byte
-- and agrees with all its strings, or differs; or its byte is below those of all tries of f; or none of these
unfoldable pub outcome : {A : Type 0} → Above → Strings → Forest → Strings → A → A → A → A → A
outcome above s f k agrees differs before later =
    cond (meets above s k) (cond (all_begin s k) agrees differs) (cond (precedes above k f) before later)

-- Tries with the key x added. Where all agrees a leaf takes the reference, last, and an inner node passes on what remains
-- of the key; a node that differs is split; where no child has the byte, a leaf is added
unfoldable pub added : Above → Forest → Key → Forest
added above none x = new_leaf x none
added above (leaf s ts more) x =
    outcome above s (leaf s ts more) x.strings
    (leaf s (ts ++ (remains s x ∷ [])) more)
    (split above (λ s' m. leaf s' ts m) s x more)
    (new_leaf x (leaf s ts more))
    (leaf s ts (added above more x))
added above (inner d s children more) x =
    outcome above s (inner d s children more) x.strings
    (inner d s (added (below d) children (remains s x)) more)
    (split above (λ s' m. inner d s' children m) s x more)
    (new_leaf x (inner d s children more))
    (inner d s children (added above more x))

-- keys added in their sequence
unfoldable pub grown : Forest → List Key → Forest
grown t [] = t
grown t (x ∷ xs) = grown (added root t x) xs

unfoldable pub small_trie : List Key → Forest
small_trie xs = grown none xs
