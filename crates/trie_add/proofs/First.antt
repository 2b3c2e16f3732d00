-- The first of tries and its siblings: what an addition that meets the first does to its bytes, and where it stands in a slice. Assumes nothing.
use mathlib.Core.Path.{◌≡◌, refl, sym, ap, ◌∙◌}
use mathlib.Core.Bool.{Bool, true, false, cond}
use Prim.Native.Nat.{ℕ, suc, ◌+◌, ◌-◌, ◌≤◌}
use mathlib.Core.List.{List, [], ◌∷◌, ◌++◌, append-nil, map}
use native.Mathlib.Omega.{arith}
use lib.ListN.{length, length-append}
use lib.Dec.{ltb}
use Rattle.buffer.specs.Lists.{flat}
use Rattle.buffer.specs.Splice.{region}
use Rattle.buffer.specs.Numbers.{bytes_of}
use Rattle.buffer.proofs.Digits.{length_bytes_of}
use Rattle.trie_theory.specs.Forest.{Strings, Key, Forest, none, leaf, inner}
use Rattle.trie_theory.specs.Strings.{at, all_begin, commons, strip, remains, first}
use Rattle.trie_theory.specs.Dimensions.{Above, below}
use Rattle.trie_theory.specs.SmallTrie.{meets, new_leaf, split, outcome, added, two, differing}
use Rattle.trie_theory.specs.Size.{height}
use Rattle.trie_theory.specs.Encode.{Regular, encode, node_bytes, suffix_bytes}
use Rattle.std.specs.Prelude.{Some}
use Rattle.trie_read.specs.Heads.{Head, front, body_of, head_of}
use Rattle.trie_read.specs.Places.{top, head_between}
use Rattle.trie_read.specs.Shape.{part}
use Rattle.trie_read.specs.Kinds.{kind_of_byte}
use Rattle.trie_read.specs.declared.kind.Kind.{Kind}
use Rattle.trie_read.proofs.Node.{length_front, length_own, head_is}
use Rattle.trie_read.proofs.Stretch.{length_part}
use Rattle.trie_read.proofs.Node.{two as two_strings}
use Rattle.trie_add.specs.Replaced.{split_bytes}
use Rattle.trie_add.specs.Added.{single, siblings, kind_of, grown_body, PlacesOf}
use Rattle.trie_add.proofs.Splitting.{own_is}
use Rattle.trie_add.proofs.Adding.{stretch}

pub height_some : (f : Forest) → (f ≡ none → ⊥) → 1 ≤ height f
unfolding height
height_some none n = absurd (n refl)
height_some (leaf s ts more) n = omega arith
height_some (inner d s children more) n = omega arith

-- ---- bytes

pub single_bytes : (f : Forest) → encode f ≡ encode (single f) ++ encode (siblings f)
unfolding encode single siblings
single_bytes none = refl
single_bytes (leaf s ts more) = simp append-nil
single_bytes (inner d s children more) = simp append-nil

pub single_own : (f : Forest) → (f ≡ none → ⊥) → encode (single f) ≡ node_bytes (kind_of f) (top f) (body_of f)
unfolding encode single kind_of top body_of
single_own none n = absurd (n refl)
single_own (leaf s ts more) n = append-nil (node_bytes 0 s (flat (map suffix_bytes ts)))
single_own (inner d s children more) n = append-nil (node_bytes (suc d) s (encode children))

-- ---- an addition to a node that has the key's branching byte

-- before later siblings
split_before : (above : Above) (node : Strings → Forest → Forest) (s : Strings) (x : Key) (more : Forest)
    → encode (split above node s x more) ≡ encode (split above node s x none) ++ encode more
unfolding encode split
split_before above node s x more = simp append-nil

pub new_leaf_before : (y : Key) (more : Forest) → encode (new_leaf y more) ≡ encode (new_leaf y none) ++ encode more
unfolding encode new_leaf
new_leaf_before y more = simp append-nil

nothing_behind : (w : List ℕ) → w ++ encode none ≡ w
unfolding encode
nothing_behind w = append-nil w

module _ (above : Above) (x : Key) where
  pub single_added : (f : Forest) → (f ≡ none → ⊥) → meets above (top f) x.strings ≡ true → encode (added above f x) ≡ encode (added above (single f) x) ++ encode (siblings f)
  unfolding encode single siblings top added outcome
  single_added none n m = absurd (n refl)
  single_added (leaf s ts more) n m = rw m (go (all_begin s x.strings))
    where
      go : (b : Bool) → encode (cond b (leaf s (ts ++ (remains s x ∷ [])) more) (split above (λ s' k. leaf s' ts k) s x more))
          ≡ encode (cond b (leaf s (ts ++ (remains s x ∷ [])) none) (split above (λ s' k. leaf s' ts k) s x none)) ++ encode more
      go true = simp append-nil
      go false = split_before above (λ s' k. leaf s' ts k) s x more
  single_added (inner d s children more) n m = rw m (go (all_begin s x.strings))
    where
      go : (b : Bool) → encode (cond b (inner d s (added (below d) children (remains s x)) more) (split above (λ s' k. inner d s' children k) s x more))
          ≡ encode (cond b (inner d s (added (below d) children (remains s x)) none) (split above (λ s' k. inner d s' children k) s x none)) ++ encode more
      go true = simp append-nil
      go false = split_before above (λ s' k. inner d s' children k) s x more

  -- it agrees with the node's strings
  pub single_agrees : (f : Forest) → (f ≡ none → ⊥) → meets above (top f) x.strings ≡ true → all_begin (top f) x.strings ≡ true
      → encode (added above (single f) x) ≡ node_bytes (kind_of f) (top f) (grown_body f (remains (top f) x))
  unfolding encode single kind_of top grown_body added outcome
  single_agrees none n m g = absurd (n refl)
  single_agrees (leaf s ts more) n m g = rw (m, g) (append-nil _)
  single_agrees (inner d s children more) n m g = rw (m, g) (append-nil _)

  two_bytes : (d kind : ℕ) (node : Strings → Forest → Forest) (body : List ℕ) (s : Strings) (y : Key)
      → ((s' : Strings) (k : Forest) → encode (node s' k) ≡ node_bytes kind s' body ++ encode k)
      → encode (two d node s y) ≡ cond (ltb (first d y.strings) (first d s)) (encode (new_leaf y none) ++ node_bytes kind s body) (node_bytes kind s body ++ encode (new_leaf y none))
  unfolding two
  two_bytes d kind node body s y h = go (ltb (first d y.strings) (first d s))
    where
      go : (b : Bool) → encode (cond b (new_leaf y (node s none)) (node s (new_leaf y none))) ≡ cond b (encode (new_leaf y none) ++ node_bytes kind s body) (node_bytes kind s body ++ encode (new_leaf y none))
      go true = new_leaf_before y (node s none) ∙ ap (λ (w : List ℕ). encode (new_leaf y none) ++ w) (h s none ∙ nothing_behind (node_bytes kind s body))
      go false = h s (new_leaf y none)

  -- it differs from them
  pub single_differs : (f : Forest) → (f ≡ none → ⊥) → meets above (top f) x.strings ≡ true → all_begin (top f) x.strings ≡ false
      → encode (added above (single f) x) ≡ split_bytes above (kind_of f) (top f) (body_of f) x
  unfolding encode single kind_of top body_of added outcome split split_bytes remains
  single_differs none n m g = absurd (n refl)
  single_differs (leaf s ts more) n m g =
      let p = commons s x.strings in
      let d = differing above (strip p s) in
      rw (m, g) (append-nil _ ∙ ap (node_bytes (suc d) p) (two_bytes d 0 (λ s' k. leaf s' ts k) (flat (map suffix_bytes ts)) (strip p s) (remains p x) (λ s' k. refl)))
  single_differs (inner e s children more) n m g =
      let p = commons s x.strings in
      let d = differing above (strip p s) in
      rw (m, g) (append-nil _ ∙ ap (node_bytes (suc d) p) (two_bytes d (suc e) (λ s' k. inner e s' children k) (encode children) (strip p s) (remains p x) (λ s' k. refl)))

-- ---- where the first stands in a slice

-- the node from `node` to `next` is the first of f
pub record Stands (s : List ℕ) (node : ℕ) (kind : Kind) (start body next : ℕ) (f : Forest) : Type 0 where
  pub some : f ≡ none → ⊥
  pub kind_is : kind ≡ kind_of_byte (kind_of f)
  pub wide : length (top f) ≡ 2
  pub front_is : region s node (body - node) ≡ front (kind_of f) (top f) (next - body)
  pub body_is : region s body (next - body) ≡ body_of f
  pub strings_are : part (node + 7) start s ∷ part start body s ∷ [] ≡ top f

-- the strings of a front
strings_at : (s : List ℕ) (node kind start body m : ℕ) (v p : List ℕ) → region s node (body - node) ≡ front kind (v ∷ p ∷ []) m
    → start ≡ node + 7 + length v → body ≡ start + length p → body ≤ length s → (part (node + 7) start s ≡ v) × (part start body s ≡ p)
unfolding front
strings_at s node kind start body m v p e a b h =
    let seven = kind ∷ length v ∷ length p ∷ bytes_of 4 m in
    let l7 : length seven ≡ 7 = omega (arith, length_bytes_of 4 m) in
    let lb = length-append v p in
    let n : body - node ≡ length seven + length (v ++ p) = omega arith in
    let one = stretch s node (body - node) seven (v ++ p) e n (omega arith) in
    let two = stretch s (node + length seven) (length (v ++ p)) v p one.1 lb (omega arith) in
    let x : node + length seven ≡ node + 7 = omega arith in
    let y : start - (node + 7) ≡ length v = omega arith in
    let z : body - start ≡ length p = omega arith in
    let w : node + 7 + length v ≡ start = omega arith in
    (rw y (rw x at two.0), rw z (rw (x, w) at two.1))

-- the places of a head
module _ (t : List ℕ) (off at_ : ℕ) (kind : Kind) (path body next : ℕ) (a : at_ + 7 ≤ path) (b : path ≤ body) (c : body ≤ next) (d : next ≤ length t) where
  placed : (byte : ℕ) (f : Forest) (rest : List ℕ) → (f ≡ none → ⊥) → byte ≡ kind_of f
      → head_between t at_ kind path body next ≡ record { kind = kind_of_byte byte; value = at 0 (top f); path = at 1 (top f); body = body_of f; rest = rest }
      → PlacesOf (off + at_) kind (off + path) (off + body) (off + next) f
  placed byte f rest n k e =
      let v : length (part (at_ + 7) path t) ≡ length (at 0 (top f)) = ap (λ (h : Head). length h.value) e in
      let p : length (part path body t) ≡ length (at 1 (top f)) = ap (λ (h : Head). length h.path) e in
      let y : length (part body next t) ≡ length (body_of f) = ap (λ (h : Head). length h.body) e in
      record {
        some = n;
        kind_is = ap (λ (h : Head). h.kind) e ∙ ap kind_of_byte k;
        value_is = omega (arith, v, length_part t (at_ + 7) path (omega arith));
        path_is = omega (arith, p, length_part t path body (omega arith));
        body_is = omega (arith, y, length_part t body next d);
      }

  pub places_of : (f : Forest) → Some (head_between t at_ kind path body next) ≡ head_of f → PlacesOf (off + at_) kind (off + path) (off + body) (off + next) f
  unfolding head_of kind_of body_of top
  places_of none e = absurd cc
  places_of (leaf s ts more) e = placed 0 (leaf s ts more) (encode more) (λ n. cc) refl (head_is _ 0 s _ _ e)
  places_of (inner m s children more) e = placed (suc m) (inner m s children more) (encode more) (λ n. cc) refl (head_is _ (suc m) s _ _ e)

regular_top : (f : Forest) → Regular 2 f → (f ≡ none → ⊥) → length (top f) ≡ 2
unfolding Regular top
regular_top none w n = absurd (n refl)
regular_top (leaf s ts more) w n = w.0
regular_top (inner d s children more) w n = w.0

pub stands : (s : List ℕ) (node : ℕ) (kind : Kind) (start body next : ℕ) (f : Forest) → Regular 2 f → region s node (next - node) ≡ encode (single f)
    → PlacesOf node kind start body next f → next ≤ length s → Stands s node kind start body next f
stands s node kind start body next f w e l d =
    let wide = regular_top f w l.some in
    let own : region s node (next - node) ≡ front (kind_of f) (top f) (length (body_of f)) ++ body_of f = e ∙ single_own f l.some ∙ own_is (kind_of f) (top f) (body_of f) wide in
    let lf = length_front (kind_of f) (top f) (length (body_of f)) in
    let n : next - node ≡ length (front (kind_of f) (top f) (length (body_of f))) + length (body_of f) = omega (arith, lf, l) in
    let parts = stretch s node (next - node) (front (kind_of f) (top f) (length (body_of f))) (body_of f) own n (omega (arith, l)) in
    let x : length (front (kind_of f) (top f) (length (body_of f))) ≡ body - node = omega (arith, lf, l) in
    let y : length (body_of f) ≡ next - body = omega (arith, l) in
    let z : node + (body - node) ≡ body = omega (arith, l) in
    let first = rw (x, y) at parts.0 in
    let st = strings_at s node (kind_of f) start body (next - body) (at 0 (top f)) (at 1 (top f)) (first ∙ ap (λ (t : Strings). front (kind_of f) t (next - body)) (two_strings (top f) wide)) (omega (arith, l)) (omega (arith, l)) (omega (arith, l)) in
    record {
      some = l.some;
      kind_is = l.kind_is;
      wide = wide;
      front_is = first;
      body_is = rw (x, z, y) at parts.1;
      strings_are = rw (st.0, st.1) (sym (two_strings (top f) wide));
    }

pub single_length : (node : ℕ) (kind : Kind) (start body next : ℕ) (f : Forest) → Regular 2 f → PlacesOf node kind start body next f → length (encode (single f)) ≡ next - node
single_length node kind start body next f w l =
    let wide = regular_top f w l.some in
    omega (arith, ap length (single_own f l.some) ∙ length_own (kind_of f) (top f) (body_of f) wide, l)
