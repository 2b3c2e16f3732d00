-- What is proved of every sound trie, so of levels and of small tries alike (proofs/TrieOf.antt): the trie of a list of keys.
use Rattle.std.specs.Prelude.{ℕ, suc, ◌+◌, ◌*◌, ◌≤◌, ◌≡◌, Bool, true, List, [], length}
use Rattle.trie_theory.specs.Forest.{Strings, Key, Forest, keys, tops}
use Rattle.buffer.specs.Sizes.{reference_size}
use Rattle.buffer.specs.Lists.{pick, count}
use Rattle.trie_theory.specs.Strings.{all_begin}
use Rattle.trie_theory.specs.Dimensions.{root}
use Rattle.trie_theory.specs.Lookup.{among, member}
use Rattle.trie_theory.specs.Search.{found}
use Rattle.trie_theory.specs.Sound.{Sound}
use Rattle.trie_theory.specs.Encode.{encode}
use Rattle.trie_theory.specs.Size.{nodes, height}

-- t is a trie of the keys xs of n dimensions, each of at most m bytes and a reference of 20
pub record TrieOf (n m : ℕ) (xs : List Key) (t : Forest) : Type 0 where
  -- each child begins with its branching byte, siblings differ in it, inner nodes have two or more children
  pub sound : Sound n root t
  -- nothing is lost or added: as many keys of t as of xs pass any test, so each key stands there as often
  pub kept : (p : Key → Bool) → count p (keys [] t) ≡ count p xs
  -- a key is found by walking down with its bytes exactly if it is one of xs
  pub lookup : (x : Key) → member root t x ≡ among x xs
  -- where `reach` holds of whatever a key that matches goes on from, a search finds the keys that match, each as often
  pub search : (reach : Strings → Bool) (matching : Key → Bool) →
      ((k : Strings) (x : Key) → all_begin k x.strings ≡ true → matching x ≡ true → reach k ≡ true) →
      (p : Key → Bool) → count p (found reach matching root [] t) ≡ count p (pick matching xs)
  -- of N keys: at most 2 N - 1 nodes, at most m + 1 one below the other, and so many bytes
  pub few : nodes t + length (tops t) ≤ 2 * length xs
  pub high : height t ≤ suc m
  pub size : length (encode t) ≤ (10 + reference_size + 3 * n + m) * length xs
