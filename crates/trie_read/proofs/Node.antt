-- The bytes of a node, taken apart: what the head says, and which stretch is which string, the body, the later siblings.
-- Stated once for leaves and inner nodes, of `node_bytes`. Assumes nothing.
use mathlib.Core.Path.{◌≡◌, refl, sym, ap, ◌∙◌}
use mathlib.Core.Logic.{◌⊎◌, inl, inr}
use Prim.Native.Nat.{ℕ, suc, ◌+◌, ◌≤◌}
use mathlib.Core.List.{List, [], ◌∷◌, ◌++◌, append_assoc, append-nil, map}
use native.Mathlib.Omega.{arith}
use lib.ListN.{length, get_or, take, length-append}
use lib.Seq.{take_at}
use Rattle.std.specs.Prelude.{Option, Some, None, Result, Ok}
use Rattle.buffer.specs.Splice.{region}
use Rattle.buffer.specs.Numbers.{bytes_of, number}
use Rattle.buffer.proofs.Digits.{length_bytes_of, number_bytes_of}
use Rattle.trie_theory.specs.Forest.{Strings, Key, Forest, none, leaf, inner}
use Rattle.buffer.specs.Lists.{All, flat}
use Rattle.trie_theory.specs.Strings.{at}
use Rattle.trie_theory.specs.Encode.{Regular, encode, node_bytes, suffix_bytes}
use Rattle.trie_read.proofs.Stretch.{part_at, part_end, cut, cut_last}
use Rattle.trie_read.proofs.KindBytes.{inner_number, byte_inner}
use Rattle.trie_read.specs.Shape.{part, Fixed}
use Rattle.trie_read.specs.Kinds.{kind_of_byte, number_of}
use Rattle.trie_read.specs.Heads.{front, Head, node_head, body_of, head_of, head_in, head_told}
use Rattle.trie_read.specs.declared.head.Malformed.{Malformed}
use Rattle.trie_read.specs.declared.head.Node.{Node}
use Rattle.trie_read.specs.declared.kind.Dimension.{Dimension}
use Rattle.trie_read.specs.declared.kind.Kind.{Kind}
use Rattle.trie_read.specs.declared.kind.Kind.TheVariants.{Leaf, Inner}

-- ---- the bytes before the body

pub length_front : (kind : ℕ) (s : Strings) (n : ℕ) → length (front kind s n) ≡ 7 + length (at 0 s) + length (at 1 s)
unfolding front
length_front kind s n = simp (length-append, length_bytes_of) (omega arith)

-- a node's bytes, and what follows them
pub node_is : (kind : ℕ) (s : Strings) (body rest : List ℕ) → length s ≡ 2 → node_bytes kind s body ++ rest ≡ front kind s (length body) ++ (body ++ rest)
unfolding node_bytes flat front
node_is kind [] body rest h = absurd (omega arith)
node_is kind (v ∷ []) body rest h = absurd (omega arith)
node_is kind (v ∷ p ∷ []) body rest h = simp append_assoc
node_is kind (v ∷ p ∷ q ∷ s) body rest h = absurd (omega arith)

pub length_own : (kind : ℕ) (s : Strings) (body : List ℕ) → length s ≡ 2 → length (node_bytes kind s body) ≡ 7 + length (at 0 s) + length (at 1 s) + length body
length_own kind s body h =
    let e : node_bytes kind s body ≡ front kind s (length body) ++ (body ++ []) = sym (append-nil (node_bytes kind s body)) ∙ node_is kind s body [] h in
    rw (e, append-nil body, length-append, length_front kind s (length body))

-- ---- the head

-- the numbers that the code reads, of a node's bytes
pub record Numbers (t : List ℕ) (kind : ℕ) (s : Strings) (body : List ℕ) : Type 0 where
  pub kind_is : get_or t 0 0 ≡ kind
  pub value_is : get_or t 1 0 ≡ length (at 0 s)
  pub path_is : get_or t 2 0 ≡ length (at 1 s)
  pub body_is : number (region t 3 4) ≡ length body

pub front_numbers : (kind : ℕ) (s : Strings) (body rest : List ℕ) → Numbers (front kind s (length body) ++ rest) kind s body
unfolding front
front_numbers kind s body rest =
    let d : take 4 ((bytes_of 4 (length body) ++ (at 0 s ++ at 1 s)) ++ rest) ≡ bytes_of 4 (length body) =
    rw append_assoc (take_at (bytes_of 4 (length body)) _ 4 (length_bytes_of 4 (length body))) in
    record { kind_is = refl; value_is = refl; path_is = refl; body_is = rw d (number_bytes_of 3 (length body)) }

-- the bytes of tries that are not empty begin with a node
pub record First (f : Forest) : Type 0 where
  pub kind : ℕ
  pub strings : Strings
  pub more : Forest
  pub wide : length strings ≡ 2
  pub told : head_of f ≡ Some (node_head kind strings (body_of f) (encode more))
  pub bytes : encode f ≡ front kind strings (length (body_of f)) ++ (body_of f ++ encode more)

pub first_node : (f : Forest) → Regular 2 f → (length (encode f) ≡ 0 → ⊥) → First f
unfolding encode Regular head_of body_of
first_node none h e = absurd (e refl)
first_node (leaf s ts more) h e =
    record { kind = 0; strings = s; more = more; wide = h.0; told = refl; bytes = node_is 0 s (flat (map suffix_bytes ts)) (encode more) h.0 }
first_node (inner d s children more) h e =
    record { kind = suc d; strings = s; more = more; wide = h.0; told = refl; bytes = node_is (suc d) s (encode children) (encode more) h.0 }

pub empty_end : (f : Forest) → length (encode f) ≡ 0 → None ≡ head_of f
unfolding encode head_of node_bytes
empty_end none e = refl
empty_end (leaf s ts more) e = absurd (omega arith)
empty_end (inner d s children more) e = absurd (omega arith)

-- ---- the stretches of a node

-- t are the bytes of a node with the strings s and a body, and then rest
pub record Places (t : List ℕ) (s : Strings) (body rest : List ℕ) (path start next : ℕ) : Type 0 where
  pub value_is : part 7 path t ≡ at 0 s
  pub path_is : part path start t ≡ at 1 s
  pub body_is : part start next t ≡ body
  pub rest_is : part next (length t) t ≡ rest

-- the first seven bytes
unfoldable seven : ℕ → Strings → ℕ → List ℕ
seven kind s n = kind ∷ length (at 0 s) ∷ length (at 1 s) ∷ bytes_of 4 n

length_seven : (kind : ℕ) (s : Strings) (n : ℕ) → length (seven kind s n) ≡ 7
unfolding seven
length_seven kind s n = omega (arith, length_bytes_of 4 n)

front_is : (kind : ℕ) (s : Strings) (n : ℕ) (x : List ℕ) → front kind s n ++ x ≡ seven kind s n ++ (at 0 s ++ (at 1 s ++ x))
unfolding front seven
front_is kind s n x = simp append_assoc

pub places : (kind : ℕ) (s : Strings) (body rest : List ℕ)
    → Places (front kind s (length body) ++ (body ++ rest)) s body rest (7 + length (at 0 s)) (7 + length (at 0 s) + length (at 1 s)) (7 + length (at 0 s) + length (at 1 s) + length body)
places kind s body rest =
    let n = length body in
    let value = seven kind s n ++ at 0 s in
    let whole = front kind s n ++ body in
    record {
      value_is = rw (front_is kind s n (body ++ rest)) (part_at (seven kind s n) (at 0 s) _ 7 _ (length_seven kind s n) refl);
      path_is =
          rw (front_is kind s n (body ++ rest), ← append_assoc (seven kind s n) (at 0 s))
          (part_at value (at 1 s) _ _ _ (omega (arith, length-append (seven kind s n) (at 0 s), length_seven kind s n)) refl);
      body_is = part_at (front kind s n) body rest _ _ (length_front kind s n) refl;
      rest_is = part_end _ whole rest _ (sym (append_assoc (front kind s n) body rest)) (omega (arith, length-append (front kind s n) body, length_front kind s n));
    }

-- ---- what is read of the bytes of tries

module _ (t : List ℕ) (f : Forest) (h : Regular 2 f) (e : t ≡ encode f) where
  pub as_end : length t ≡ 0 → None ≡ head_of f
  as_end z = empty_end f (rw e at z)

  first : (length t ≡ 0 → ⊥) → First f
  first n = first_node f h (λ z. n (rw e z))

  numbers : (w : First f) → Numbers t w.kind w.strings (body_of f)
  numbers w = rw (e, w.bytes) (front_numbers w.kind w.strings (body_of f) (body_of f ++ encode w.more))

  pub length_node : (w : First f) → length t ≡ 7 + length (at 0 w.strings) + length (at 1 w.strings) + length (body_of f) + length (encode w.more)
  length_node w = rw (e, w.bytes, length-append, length_front w.kind w.strings (length (body_of f)), length-append) (omega arith)

  pub as_long : (length t ≡ 0 → ⊥) → 7 + get_or t 1 0 + get_or t 2 0 + number (region t 3 4) ≤ length t
  as_long n =
      let w = first n in
      omega (arith, length_node w, numbers w)

  -- the head that the code makes
  -- the places of the first node
  node_places : (w : First f) (path start next : ℕ) → path ≡ 7 + length (at 0 w.strings) → start ≡ 7 + length (at 0 w.strings) + length (at 1 w.strings)
      → next ≡ 7 + length (at 0 w.strings) + length (at 1 w.strings) + length (body_of f) → Places t w.strings (body_of f) (encode w.more) path start next
  node_places w path start next a b c = rw (a, b, c, e, w.bytes) (places w.kind w.strings (body_of f) (encode w.more))

  pub as_node : (length t ≡ 0 → ⊥) → (kind : Kind) (path start next : ℕ) → kind ≡ kind_of_byte (get_or t 0 0) → path ≡ 7 + get_or t 1 0 → start ≡ path + get_or t 2 0
      → next ≡ start + number (region t 3 4)
      → Some (record { kind = kind; value = part 7 path t; path = part path start t; body = part start next t; rest = part next (length t) t }) ≡ head_of f
  as_node n kind path start next k p s x =
      let w = first n in
      let m = numbers w in
      let y : Places t w.strings (body_of f) (encode w.more) path start next = node_places w path start next (omega arith) (omega arith) (omega arith) in
      let z : kind ≡ kind_of_byte w.kind = k ∙ ap kind_of_byte m.kind_is in
      rw (z, y.value_is, y.path_is, y.body_is, y.rest_is) (sym w.told)

-- bytes are what stands before a node's strings, and its parts
pub parts_are : (t : List ℕ) (path start next : ℕ) → 7 ≤ path → path ≤ start → start ≤ next → next ≤ length t
    → t ≡ take 7 t ++ (part 7 path t ++ (part path start t ++ (part start next t ++ part next (length t) t)))
parts_are t path start next a b c d =
    cut 0 7 t (omega arith)
    ∙ ap (λ (x : List ℕ). take 7 t ++ x) (cut 7 path t a ∙ ap (λ (x : List ℕ). part 7 path t ++ x) (cut path start t b ∙ ap (λ (x : List ℕ). part path start t ++ x) (cut start next t c ∙ ap (λ (x : List ℕ). part start next t ++ x) (cut_last next t))))

-- ---- a node taken apart: what every reader starts from

pub two : (s : Strings) → length s ≡ 2 → s ≡ at 0 s ∷ at 1 s ∷ []
two [] h = absurd (omega arith)
two (v ∷ []) h = absurd (omega arith)
two (v ∷ p ∷ []) h = refl
two (v ∷ p ∷ q ∷ s) h = absurd (omega arith)

pub record LeafView (g : Forest) (h : Head) : Type 0 where
  pub strings : Strings
  pub suffixes : List Key
  pub more : Forest
  pub is : g ≡ leaf strings suffixes more
  pub fixed : All Fixed suffixes
  pub shaped : Regular 2 more
  pub wide : length strings ≡ 2
  pub value_is : h.value ≡ at 0 strings
  pub path_is : h.path ≡ at 1 strings
  pub strings_are : h.value ∷ h.path ∷ [] ≡ strings
  pub body_is : h.body ≡ flat (map suffix_bytes suffixes)
  pub rest_is : h.rest ≡ encode more

pub record InnerView (g : Forest) (h : Head) (dimension : Dimension) : Type 0 where
  pub strings : Strings
  pub children : Forest
  pub more : Forest
  pub is : g ≡ inner (number_of dimension) strings children more
  pub lower : Regular 2 children
  pub shaped : Regular 2 more
  pub wide : length strings ≡ 2
  pub value_is : h.value ≡ at 0 strings
  pub path_is : h.path ≡ at 1 strings
  pub strings_are : h.value ∷ h.path ∷ [] ≡ strings
  pub body_is : h.body ≡ encode children
  pub rest_is : h.rest ≡ encode more

-- a head that is a node's has its parts
pub head_is : (h : Head) (byte : ℕ) (s : Strings) (body rest : List ℕ) → Some h ≡ Some (node_head byte s body rest) → h ≡ node_head byte s body rest
head_is h byte s body rest e = cc

strings_of : (v p : List ℕ) (s : Strings) → length s ≡ 2 → v ≡ at 0 s → p ≡ at 1 s → v ∷ p ∷ [] ≡ s
strings_of v p s w a b = rw (a, b) (sym (two s w))

pub leaf_view : (h : Head) (g : Forest) → Regular 2 g → Some h ≡ head_of g → h.kind ≡ Leaf → LeafView g h
unfolding head_of Regular body_of
leaf_view h none w e z = absurd cc
leaf_view h (leaf s ts more) w e z =
    let is : h ≡ node_head 0 s (flat (map suffix_bytes ts)) (encode more) = head_is h 0 s _ _ e in
    record {
      strings = s;
      suffixes = ts;
      more = more;
      is = refl;
      fixed = w.1;
      shaped = w.2;
      wide = w.0;
      value_is = ap (λ (x : Head). x.value) is;
      path_is = ap (λ (x : Head). x.path) is;
      strings_are = strings_of h.value h.path s w.0 (ap (λ (x : Head). x.value) is) (ap (λ (x : Head). x.path) is);
      body_is = ap (λ (x : Head). x.body) is;
      rest_is = ap (λ (x : Head). x.rest) is;
    }
leaf_view h (inner d s children more) w e z =
    absurd (byte_inner d (sym (ap (λ (x : Head). x.kind) (head_is h (suc d) s _ _ e)) ∙ z))

pub inner_view : (h : Head) (g : Forest) (dimension : Dimension) → Regular 2 g → Some h ≡ head_of g → h.kind ≡ Inner dimension → InnerView g h dimension
unfolding head_of Regular body_of
inner_view h none dimension w e z = absurd cc
inner_view h (leaf s ts more) dimension w e z =
    let k : Leaf ≡ Inner dimension = sym (ap (λ (x : Head). x.kind) (head_is h 0 s _ _ e)) ∙ z in
    absurd cc
inner_view h (inner d s children more) dimension w e z =
    let is : h ≡ node_head (suc d) s (encode children) (encode more) = head_is h (suc d) s _ _ e in
    let n : number_of dimension ≡ d = inner_number d dimension (sym (ap (λ (x : Head). x.kind) is) ∙ z) in
    record {
      strings = s;
      children = children;
      more = more;
      is = rw n refl;
      lower = w.1;
      shaped = w.2;
      wide = w.0;
      value_is = ap (λ (x : Head). x.value) is;
      path_is = ap (λ (x : Head). x.path) is;
      strings_are = strings_of h.value h.path s w.0 (ap (λ (x : Head). x.value) is) (ap (λ (x : Head). x.path) is);
      body_is = ap (λ (x : Head). x.body) is;
      rest_is = ap (λ (x : Head). x.rest) is;
    }

-- a node is a leaf or an inner node
pub kind? : (k : Kind) → (k ≡ Leaf) ⊎ ((d : Dimension) × (k ≡ Inner d))
kind? Leaf = inl refl
kind? (Inner d) = inr (d, refl)

pub head_end : (g : Forest) → None ≡ head_of g → g ≡ none
unfolding head_of
head_end none h = refl
head_end (leaf s ts more) h = absurd cc
head_end (inner d s children more) h = absurd cc

-- ---- what was read, at each outcome

module _ {r : Result (Option Node) Malformed} (f : Forest) (e : head_told r ≡ Ok (head_of f)) where
  pub told_none : r ≡ Ok None → None ≡ head_of f
  told_none q = let z : Ok None ≡ Ok (head_of f) = rw q at e in cc

  pub told_some : (n : Node) → r ≡ Ok (Some n) → Some (head_in n) ≡ head_of f
  told_some n q = let z : Ok (Some (head_in n)) ≡ Ok (head_of f) = rw q at e in cc
