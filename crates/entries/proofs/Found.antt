-- What a search of a trie finds: of tries whose values are bytes, exactly the keys that match. Assumes nothing.
use mathlib.Core.Path.{◌≡◌, refl, sym, ap, ap₂, ◌∙◌}
use mathlib.Core.Bool.{Bool, true, cond, ◌&&◌, and-true}
use mathlib.Core.List.{List, [], ◌++◌, map}
use Rattle.buffer.specs.Lists.{All, all, pick}
use Rattle.buffer.specs.Numbers.{byte}
use Rattle.buffer.proofs.Tests.{and_left, and_right}
use Rattle.buffer.proofs.Lists.{all_imp, all_left, all_right, pick_agree}
use Rattle.trie_theory.specs.Forest.{Strings, Key, Forest, none, leaf, inner, join, under, keys}
use Rattle.trie_theory.specs.Strings.{at}
use Rattle.trie_theory.specs.Dimensions.{Above, below}
use Rattle.trie_theory.specs.Search.{enters, found}
use Rattle.trie_theory.proofs.Search.{found_all}
use Rattle.entries.specs.Query.{Query, reaches, wants}
use Rattle.entries.proofs.Branch.{never_passed}

found_agree : (reach : Strings → Bool) (m m' : Key → Bool) (above : Above) (k : Strings) (f : Forest) → All (λ x. m x ≡ m' x) (keys k f)
    → found reach m above k f ≡ found reach m' above k f
unfolding found keys
found_agree reach m m' above k none a = refl
found_agree reach m m' above k (leaf s ts more) a =
    let xs = map (under (join k s)) ts in
    ap₂ ◌++◌ (ap (λ (l : List Key). cond (enters reach above k s) l []) (pick_agree m m' (all_left xs (keys k more) a))) (found_agree reach m m' above k more (all_right xs (keys k more) a))
found_agree reach m m' above k (inner d s children more) a =
    let xs = keys (join k s) children in
    ap₂ ◌++◌ (ap (λ (l : List Key). cond (enters reach above k s) l []) (found_agree reach m m' (below d) (join k s) children (all_left xs (keys k more) a)))
    (found_agree reach m m' above k more (all_right xs (keys k more) a))

-- the value of a key is of bytes
abbrev pub Valued : Key → Type 0
Valued x = all byte (at 0 x.strings) ≡ true

-- WHAT IS FOUND is every key that matches, in the tries' own sequence
pub found_keys : (q : Query) (above : Above) (k : Strings) (f : Forest) → All Valued (keys k f)
    → found (reaches q) (wants q) above k f ≡ pick (wants q) (keys k f)
found_keys q above k f a =
    found_agree (reaches q) (wants q) both above k f (all_imp agree a)
    ∙ found_all (reaches q) both (λ l x g e. never_passed q l x (and_right (wants q x) (all byte (at 0 x.strings)) e) g (and_left (wants q x) (all byte (at 0 x.strings)) e)) above k f
    ∙ sym (pick_agree (wants q) both (all_imp agree a))
  where
    both : Key → Bool
    both x = wants q x && all byte (at 0 x.strings)

    agree : (x : Key) → Valued x → wants q x ≡ both x
    agree x v = rw v (sym (and-true (wants q x)))
