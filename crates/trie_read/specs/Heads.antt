-- What the head of the first node says. Assumes nothing: these are definitions.
use Rattle.std.specs.Prelude.{ℕ, suc, ◌+◌, ◌<◌, ◌≡◌, List, [], ◌∷◌, ◌++◌, map, length, Option, Some, None, Result, Ok, Err, IfSome, option_map}
use Rattle.buffer.specs.Numbers.{bytes_of}
use Rattle.trie_theory.specs.Forest.{Strings, Forest, none, leaf, inner}
use Rattle.buffer.specs.Lists.{flat}
use Rattle.trie_theory.specs.Strings.{at}
use Rattle.trie_theory.specs.Encode.{Regular, encode, suffix_bytes}
use Rattle.trie_read.specs.Sizes.{head_size}
use Rattle.trie_read.specs.Kinds.{kind_of_byte}
use Rattle.trie_read.specs.declared.kind.Kind.{Kind}
use Rattle.trie_read.specs.declared.head.Node.{Node}
use Rattle.trie_read.specs.declared.head.Malformed.{Malformed}

-- the bytes of a node of a kind with the strings s before its body of n bytes
unfoldable pub front : ℕ → Strings → ℕ → List ℕ
front kind s n = kind ∷ length (at 0 s) ∷ length (at 1 s) ∷ (bytes_of 4 n ++ (at 0 s ++ at 1 s))

-- the body of the first node
unfoldable pub body_of : Forest → List ℕ
body_of none = []
body_of (leaf s ts more) = flat (map suffix_bytes ts)
body_of (inner d s children more) = encode children

-- what a node says: its kind, its strings, the bytes of its body and of its later siblings
pub record Head : Type 0 where
  pub kind : Kind
  pub value : List ℕ
  pub path : List ℕ
  pub body : List ℕ
  pub rest : List ℕ

-- that of a node with this first byte, and the strings s
abbrev pub node_head : ℕ → Strings → List ℕ → List ℕ → Head
node_head byte s body rest = record { kind = kind_of_byte byte; value = at 0 s; path = at 1 s; body = body; rest = rest }

-- the head of the first of tries; there is none where they are none
unfoldable pub head_of : Forest → Option Head
unfolding body_of
head_of none = None
head_of (leaf s ts more) = Some (node_head 0 s (body_of (leaf s ts more)) (encode more))
head_of (inner d s children more) = Some (node_head (suc d) s (body_of (inner d s children more)) (encode more))

abbrev pub head_in : Node → Head
head_in n = record { kind = kind_of_byte n.byte; value = n.value.now; path = n.path.now; body = n.body.now; rest = n.rest.now }

-- what was read, without the places where it stands
abbrev pub head_told : Result (Option Node) Malformed → Result (Option Head) Malformed
head_told (Ok None) = Ok None
head_told (Ok (Some n)) = Ok (Some (head_in n))
head_told (Err e) = Err e

-- the node stands in the bytes t, its parts one behind the other, behind a head; the lengths of its strings are bytes
pub record Stands (t : List ℕ) (n : Node) : Type 0 where
  pub lead : List ℕ
  pub is : t ≡ lead ++ (n.value.now ++ (n.path.now ++ (n.body.now ++ n.rest.now)))
  pub lead_long : length lead ≡ head_size
  pub long : length t ≡ head_size + length n.value.now + length n.path.now + length n.body.now + length n.rest.now
  pub value_short : length n.value.now < 256
  pub path_short : length n.path.now < 256

-- a walk over the nodes side by side in the bytes t: the first, if any, and the bytes that are left
pub record NextNode (t : List ℕ) (r : Option Node) (t' : List ℕ) : Type 0 where
  pub inside : IfSome r (λ n. Stands t n × (t' ≡ n.rest.now))
  pub value : (f : Forest) → Regular 2 f → t ≡ encode f → option_map head_in r ≡ head_of f

-- a node that is read stands in the bytes; there is none only where they are none
abbrev pub InBytes : List ℕ → Result (Option Node) Malformed → Type 0
InBytes t (Ok None) = length t ≡ 0
InBytes t (Ok (Some n)) = Stands t n
InBytes t (Err e) = Unit {0}
