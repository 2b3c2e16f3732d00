-- What a walk over tries in bytes writes: for each key that has a slot some bytes, one after another. Assumes nothing: these are definitions.
use Rattle.std.specs.Prelude.{ℕ, ◌+◌, ◌*◌, ◌≡◌, Bool, true, false, cond, List, [], ◌∷◌, map, length, take, ltb, Option, MatchOption}
use Rattle.buffer.specs.Lists.{all, All, pick, flat}
use Rattle.buffer.specs.Splice.{splice}
use Rattle.trie_theory.specs.Forest.{Strings, Key, join, under}
use Rattle.trie_read.specs.Shape.{Fixed}
use Rattle.trie_read.specs.Suffixes.{suffixes_bytes}
use Rattle.gather.specs.KeySlots.{has_slot, has_room, known}
use Rattle.entries.specs.declared.known.Known.{Known}

-- the bytes known on the way down, as the code has them
abbrev pub known_strings : Known → List ℕ → Strings
known_strings x k = known x.value x.path k

-- the bytes of keys or other things, one after another
unfoldable pub joined : {A : Type 0} → (A → List ℕ) → List A → List ℕ
joined g xs = flat (map g xs)

-- The bytes s, with things of one width (slots, rows or records) written from `out` on, behind n others: each at its place, if it is one of the first `room`
unfoldable pub written : {A : Type 0} → (A → List ℕ) → (out room n : ℕ) → List A → List ℕ → List ℕ
written g out room n [] s = s
written g out room n (x ∷ xs) s = written g out room (n + 1) xs (cond (ltb n room) (splice s (out + n * length (g x)) (g x)) s)

-- Things that pass a test are put: the counter goes from n to r, and they are written behind n others; nothing else changes, and the known bytes of the
-- key buffer k are the same. Where `Has` tells the things, they are these.
pub record PutBy {A : Type 0} (ok : A → Bool) (g : A → List ℕ) (Has : List A → Type 0) (v p out room n : ℕ) (s k s' k' : List ℕ) (r : ℕ) : Type 0 where
  pub put : List A
  pub fit : all ok put ≡ true
  pub count : r ≡ n + length put
  pub long : length s' ≡ length s
  pub writes : s' ≡ written g out room n put s
  pub front : take out s' ≡ take out s
  pub kept : known v p k' ≡ known v p k
  pub are : (ks : List A) → Has ks → put ≡ ks

-- .. keys that have a slot
abbrev pub Put : (Key → List ℕ) → (List Key → Type 0) → (v p out room n : ℕ) → (s k s' k' : List ℕ) → ℕ → Type 0
Put = PutBy has_slot

-- the keys of suffixes in the bytes t, behind the bytes k, that have a slot
pub record SuffixKeys (k : Strings) (t : List ℕ) (ks : List Key) : Type 0 where
  pub suffixes : List Key
  pub fixed : All Fixed suffixes
  pub bytes : t ≡ suffixes_bytes suffixes
  pub is : ks ≡ pick has_slot (map (under k) suffixes)

-- y is known: what x says, and behind it the strings of a node
pub record Deeper (x : Known) (value path k k' : List ℕ) (y : Known) : Type 0 where
  pub value_is : y.value ≡ x.value + length value
  pub path_is : y.path ≡ x.path + length path
  pub joins : known_strings y k' ≡ join (known_strings x k) (value ∷ path ∷ [])

-- A node is entered, if its strings have room behind the known bytes: then they are known too
pub record Entered (x : Known) (value path k k' : List ℕ) (r : Option Known) : Type 0 where
  pub is : MatchOption r (has_room x.value x.path value path ≡ false) (Deeper x value path k k')
  pub kept : known_strings x k' ≡ known_strings x k
