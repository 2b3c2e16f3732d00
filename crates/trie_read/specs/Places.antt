-- Where a key belongs among tries side by side, and what its addition then makes of their bytes. Assumes nothing: these are definitions.
use Rattle.std.specs.Prelude.{ℕ, ◌+◌, ◌≤◌, ◌≡◌, true, List, [], ◌++◌, length, drop, Option, Some, Result, Ok, Err}
use Rattle.trie_theory.specs.Forest.{Strings, Key, Forest, none, leaf, inner}
use Rattle.trie_theory.specs.SmallTrie.{meets, new_leaf, added}
use Rattle.trie_theory.specs.Sound.{Ascending}
use Rattle.trie_theory.specs.Size.{height}
use Rattle.trie_theory.specs.Encode.{Regular, encode}
use Rattle.trie_read.specs.Sizes.{head_size}
use Rattle.trie_read.specs.Shape.{above_of, part}
use Rattle.trie_read.specs.Heads.{Head, head_of}
use Rattle.trie_read.specs.declared.kind.Dimension.{Dimension}
use Rattle.trie_read.specs.declared.kind.Kind.{Kind}
use Rattle.trie_read.specs.declared.head.Malformed.{Malformed}
use Rattle.trie_read.specs.declared.place.Place.{Place}
use Rattle.trie_read.specs.declared.place.Place.TheVariants.{Node, Gap}

-- the tries f, seen from the bytes t: front is passed, `over` are the tries from there on, and an addition changes only those
pub record Passed (t : List ℕ) (above : Option Dimension) (k : Strings) (f : Forest) (at : ℕ) (changed : Forest → Key → Forest) : Type 0 where
  pub front : List ℕ
  pub over : Forest
  pub bytes : t ≡ front ++ encode over
  pub here : at ≡ length front
  pub shaped : Regular 2 over
  pub ascends : Ascending (above_of above) over
  pub lower : height over ≤ height f
  pub added : (x : Key) → x.strings ≡ k → encode (added (above_of above) f x) ≡ front ++ encode (changed over x)

-- the strings of the first of tries
unfoldable pub top : Forest → Strings
top none = []
top (leaf s ts more) = s
top (inner d s children more) = s

-- the head of the node from `at` on that has these places in the bytes t
abbrev pub head_between : List ℕ → ℕ → Kind → ℕ → ℕ → ℕ → Head
head_between t at kind path body next =
    record { kind = kind; value = part (at + head_size) path t; path = part path body t; body = part body next t; rest = drop next t }

-- the key belongs to the first of the tries from `at` on, whose head has these places
pub record Here (t : List ℕ) (above : Option Dimension) (k : Strings) (f : Forest) (at : ℕ) (kind : Kind) (path body next : ℕ) : Type 0 where
  pub passed : Passed t above k f at (added (above_of above))
  pub told : Some (head_between t at kind path body next) ≡ head_of passed.over
  pub leads : meets (above_of above) (top passed.over) k ≡ true

abbrev pub Found : List ℕ → Option Dimension → Strings → Forest → Result Place Malformed → Type 0
Found t above k f (Ok (Node p)) = Here t above k f p.at p.kind p.path p.body p.next
Found t above k f (Ok (Gap at)) = Passed t above k f at (λ g x. new_leaf x g)
Found t above k f (Err e) = ⊥

-- the places lie in n bytes; those of a node are in their sequence, and the lengths of its strings are bytes, by their type
abbrev pub Fits : Result Place Malformed → ℕ → Type 0
Fits (Ok (Node p)) n = p.next ≤ n
Fits (Ok (Gap at)) n = at ≤ n
Fits (Err e) n = Unit {0}
