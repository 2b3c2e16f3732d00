-- The nodes that a search enters are exactly those for which the rule of entering holds: of sound tries whose values are bytes. Assumes nothing.
use Prim.Native.Nat.{ℕ, ◌+◌, ◌≤◌}
use mathlib.Core.Path.{◌≡◌, refl, sym, ap, ◌∙◌}
use mathlib.Core.Logic.{◌↔◌}
use mathlib.Core.Bool.{Bool, true, cond, ◌&&◌, and-true}
use mathlib.Core.List.{List, [], ◌∷◌, map}
use native.Mathlib.Omega.{arith}
use lib.ListN.{length, drop}
use Rattle.buffer.specs.Lists.{All, nil, cons, all, count}
use Rattle.buffer.specs.Numbers.{byte}
use Rattle.buffer.proofs.Tests.{and_left, and_right, and_both}
use Rattle.buffer.proofs.Lists.{all_imp, all_append, all_left, all_right, all_head, tested_left}
use Rattle.buffer.proofs.Sums.{count_agree}
use Rattle.trie_theory.specs.Forest.{Strings, Key, Forest, none, leaf, inner, join, under, keys, tops}
use Rattle.trie_theory.specs.Strings.{at, all_begin}
use Rattle.trie_theory.specs.Dimensions.{Above, root, below}
use Rattle.trie_theory.specs.Sound.{Sound}
use Rattle.trie_theory.specs.Search.{Node, top, child, branch, node, nodes_in, admitted, enters, nodes_entered}
use Rattle.trie_theory.proofs.Prefix.{Prefixes, all_begin_prefixes, prefixes_at, prefixes_join}
use Rattle.trie_theory.proofs.Strings.{drop_prefix}
use Rattle.trie_theory.proofs.Search.{branch_join, entered_admitted}
use Rattle.entries.specs.Query.{Query, reaches}
use Rattle.entries.specs.Branch.{ToEnter}
use Rattle.entries.proofs.Branch.{branch_decided, reaches_before}
use Rattle.entries.proofs.Found.{Valued}

-- the value bytes known are bytes
abbrev known : Strings → Bool
known k = all byte (at 0 k)

known_before : (k s : Strings) → Prefixes k s → known s ≡ true → known k ≡ true
known_before k s h e =
    tested_left byte (at 0 k) (drop (length (at 0 k)) (at 0 s)) (ap (all byte) (drop_prefix (at 0 k) (at 0 s) (prefixes_at 0 k s h)) ∙ e)

known_join : (k s : Strings) → known (join k s) ≡ true → known k ≡ true
known_join k s = known_before k (join k s) (prefixes_join k s)

known_branch : (d : ℕ) (k s : Strings) → known (join k s) ≡ true → known (branch d k s) ≡ true
known_branch d k s = known_before (branch d k s) (join k s) (branch_join d k s)

-- .. at every node of tries
Known : Strings → Forest → Type 0
Known k none = Unit {0}
Known k (leaf s ts more) = (known (join k s) ≡ true) × Known k more
Known k (inner d s children more) = (known (join k s) ≡ true) × Known (join k s) children × Known k more

known_first : (k : Strings) (f : Forest) → 1 ≤ length (tops f) → Known k f → known k ≡ true
unfolding tops Known
known_first k none l h = absurd (omega arith)
known_first k (leaf s ts more) l h = known_join k s h.0
known_first k (inner d s children more) l h = known_join k s h.0

known_suffix : (k : Strings) (ts : List Key) → 1 ≤ length ts → All Valued (map (under k) ts) → known k ≡ true
unfolding under
known_suffix k [] l a = absurd (omega arith)
known_suffix k (t ∷ ts) l a = known_join k t.strings (all_head a)

known_all : (n : ℕ) (above : Above) (k : Strings) (f : Forest) → Sound n above f → All Valued (keys k f) → Known k f
unfolding Sound keys Known
known_all n above k none s a = tt
known_all n above k (leaf s ts more) h a =
    let xs = map (under (join k s)) ts in
    (known_suffix (join k s) ts h.1 (all_left xs (keys k more) a), known_all n above k more h.3 (all_right xs (keys k more) a))
known_all n above k (inner d s children more) h a =
    let xs = keys (join k s) children in
    let r = known_all n (below d) (join k s) children h.2 (all_left xs (keys k more) a) in
    (known_first (join k s) children (let l = h.1 in omega arith) r, r, known_all n above k more h.3 (all_right xs (keys k more) a))

-- .. and as a search comes to it
abbrev KnownAt : Node → Type 0
KnownAt top = Unit {0}
KnownAt (child l) = known l ≡ true

known_at : (above : Above) (k s : Strings) → known (join k s) ≡ true → KnownAt (node above k s)
known_at root k s e = tt
known_at (below d) k s e = known_branch d k s e

known_nodes : (above : Above) (k : Strings) (f : Forest) → Known k f → All KnownAt (nodes_in above k f)
unfolding nodes_in Known
known_nodes above k none h = nil
known_nodes above k (leaf s ts more) h = cons (known_at above k s h.0) (known_nodes above k more h.1)
known_nodes above k (inner d s children more) h =
    cons (known_at above k s h.0) (all_append (known_nodes (below d) (join k s) children h.1) (known_nodes above k more h.2))

-- tests that agree on bytes agree on what is entered
module _ (reach reach' : Strings → Bool) (agree : (k : Strings) → known k ≡ true → reach k ≡ reach' k) where
  enters_agree : (above : Above) (k s : Strings) → known (join k s) ≡ true → enters reach above k s ≡ enters reach' above k s
  unfolding enters
  enters_agree root k s e = refl
  enters_agree (below d) k s e = agree (branch d k s) (known_branch d k s e)

  entered_agree : (above : Above) (k : Strings) (f : Forest) → Known k f → nodes_entered reach above k f ≡ nodes_entered reach' above k f
  unfolding nodes_entered Known
  entered_agree above k none h = refl
  entered_agree above k (leaf s ts more) h = λ i. cond (enters_agree above k s h.0 i) 1 0 + entered_agree above k more h.1 i
  entered_agree above k (inner d s children more) h =
      λ i. cond (enters_agree above k s h.0 i) (1 + entered_agree (below d) (join k s) children h.1 i) 0 + entered_agree above k more h.2 i

  admitted_agree : {xs : List Node} → All KnownAt xs → All (λ x. admitted reach x ≡ admitted reach' x) xs
  admitted_agree = all_imp agreed
    where
      agreed : (x : Node) → KnownAt x → admitted reach x ≡ admitted reach' x
      agreed top h = refl
      agreed (child l) h = agree l h

-- THE RULE OF ENTERING is what the test decides, of each node
pub entered_decided : (q : Query) (n : ℕ) (above : Above) (k : Strings) (f : Forest) → Sound n above f → All Valued (keys k f)
    → All (λ x. (admitted (reaches q) x ≡ true) ↔ ToEnter q x) (nodes_in above k f)
entered_decided q n above k f s a = all_imp decided (known_nodes above k f (known_all n above k f s a))
  where
    decided : (x : Node) → KnownAt x → (admitted (reaches q) x ≡ true) ↔ ToEnter q x
    decided top h = (λ e. tt, λ u. refl)
    decided (child l) h = branch_decided q l h

-- THE NODE COUNT
pub entered_exactly : (q : Query) (n : ℕ) (above : Above) (k : Strings) (f : Forest) → Sound n above f → All Valued (keys k f)
    → nodes_entered (reaches q) above k f ≡ count (admitted (reaches q)) (nodes_in above k f)
entered_exactly q n above k f s a =
    let h = known_all n above k f s a in
    entered_agree (reaches q) both agree above k f h
    ∙ entered_admitted both down above k f
    ∙ sym (count_agree (admitted (reaches q)) (admitted both) (admitted_agree (reaches q) both agree (known_nodes above k f h)))
  where
    both : Strings → Bool
    both l = reaches q l && known l

    agree : (l : Strings) → known l ≡ true → reaches q l ≡ both l
    agree l e = rw e (sym (and-true (reaches q l)))

    down : (l m : Strings) → all_begin l m ≡ true → both m ≡ true → both l ≡ true
    down l m g e =
        let b = and_right (reaches q m) (known m) e in
        and_both (reaches_before q l m g b (and_left (reaches q m) (known m) e)) (known_before l m (all_begin_prefixes l m g) b)
