-- The bytes of a set's trie: the head of its node, its strings, and a body. Assumes nothing.
use mathlib.Core.Path.{◌≡◌, refl, sym, ap, ap₂, ◌∙◌}
use mathlib.Core.Option.{Option, none, some}
use Prim.Native.Nat.{ℕ, suc, ◌≤◌}
use mathlib.Core.List.{List, [], ◌∷◌, ◌++◌, append_assoc, append-nil, map}
use native.Mathlib.Omega.{arith}
use lib.ListN.{length, take, drop}
use lib.Seq.{length-take-le, take_at}
use Rattle.buffer.specs.Lists.{flat}
use Rattle.trie_theory.specs.Forest.{Strings, Key, Forest}
use Rattle.trie_theory.specs.Strings.{at, strip, remains}
use Rattle.trie_theory.specs.Dimensions.{Above, root, below}
use Rattle.trie_theory.specs.Position.{shared}
use Rattle.trie_theory.specs.Parts.{parts}
use Rattle.trie_theory.specs.Level.{choice, node, each, trie, level_of}
use Rattle.trie_theory.specs.Encode.{suffix_bytes, node_bytes, encode}
use Rattle.trie_theory.proofs.LevelBytes as levels
use Rattle.trie_theory.proofs.LevelStep.{trie_step}
use Rattle.trie_theory.proofs.Prefix.{Prefix, Prefixes}
use Rattle.trie_theory.proofs.Strings.{drop_prefix}
use Rattle.trie_read.specs.Heads.{front}
use Rattle.entries.specs.Slots.{slot_key}
use Rattle.trie_build.specs.Nodes.{rest, rests_bytes}
use Rattle.trie_build.specs.Steps.{known, trie_bytes}

-- strings behind the first bytes of them
strip_known : (v p : ℕ) (s : Strings) → length s ≡ 2 → v ≤ length (at 0 s) → p ≤ length (at 1 s)
    → strip (take v (at 0 s) ∷ take p (at 1 s) ∷ []) s ≡ drop v (at 0 s) ∷ drop p (at 1 s) ∷ []
unfolding strip
strip_known v p [] e h l = absurd (omega arith)
strip_known v p (a ∷ []) e h l = absurd (omega arith)
strip_known v p (a ∷ b ∷ []) e h l = rw (length-take-le v a h, length-take-le p b l)
strip_known v p (a ∷ b ∷ c ∷ s) e h l = absurd (omega arith)

-- the bytes of a node of two strings
node_shape : (kind : ℕ) (v p body : List ℕ) → node_bytes kind (v ∷ p ∷ []) body ≡ front kind (v ∷ p ∷ []) (length body) ++ body
unfolding node_bytes flat front
node_shape kind v p body = simp (append_assoc, append-nil)

-- the bodies
pub leaf_body : List Key → List ℕ
leaf_body ks = flat (map suffix_bytes (map (remains (shared ks)) ks))

abbrev pub inner_body : ℕ → ℕ → List Key → List ℕ
inner_body τ d ks = flat (map (levels.bytes_of 2 τ (below d) (shared ks)) (parts d ks))

module _ (τ : ℕ) (above : Above) (v p : ℕ) (ks : List Key) (wide : length (shared ks) ≡ 2) (h : v ≤ length (at 0 (shared ks))) (l : p ≤ length (at 1 (shared ks))) where
  abbrev value : List ℕ
  value = drop v (at 0 (shared ks))

  abbrev path : List ℕ
  path = drop p (at 1 (shared ks))

  pub leaf_node : choice 2 τ above ks ≡ none
      → trie_bytes τ above v p ks ≡ front 0 (value ∷ path ∷ []) (length (leaf_body ks)) ++ leaf_body ks
  unfolding trie_bytes known leaf_body
  leaf_node e =
      levels.leaf_bytes 2 τ above (known v p ks) ks e
      ∙ rw (strip_known v p (shared ks) wide h l) (node_shape 0 value path (flat (map suffix_bytes (map (remains (shared ks)) ks))))

  pub inner_node : (d : ℕ) → choice 2 τ above ks ≡ some d
      → trie_bytes τ above v p ks ≡ front (suc d) (value ∷ path ∷ []) (length (inner_body τ d ks)) ++ inner_body τ d ks
  unfolding trie_bytes known
  inner_node d e =
      levels.inner_bytes 2 τ above (known v p ks) ks d e
      ∙ rw (strip_known v p (shared ks) wide h l) (node_shape (suc d) value path (flat (map (levels.bytes_of 2 τ (below d) (shared ks)) (parts d ks))))

-- ---- a part's trie, where its keys begin with p

take_prefix : (p s : List ℕ) → Prefix p s → take (length p) s ≡ p
take_prefix p s h = ap (take (length p)) (sym (drop_prefix p s h)) ∙ take_at p (drop (length p) s) (length p) refl

known_prefix : (p s : Strings) → length p ≡ 2 → Prefixes p s → take (length (at 0 p)) (at 0 s) ∷ take (length (at 1 p)) (at 1 s) ∷ [] ≡ p
unfolding Prefixes
known_prefix [] s e h = absurd (omega arith)
known_prefix (a ∷ []) s e h = absurd (omega arith)
known_prefix (a ∷ b ∷ []) [] e h = absurd h
known_prefix (a ∷ b ∷ []) (x ∷ []) e h = absurd h.1
known_prefix (a ∷ b ∷ []) (x ∷ y ∷ s) e h = ap₂ (λ (u w : List ℕ). u ∷ w ∷ []) (take_prefix a x h.0) (take_prefix b y h.1.0)
known_prefix (a ∷ b ∷ c ∷ p) s e h = absurd (omega arith)

pub part_bytes : (τ d : ℕ) (p : Strings) (q : List Key) → length p ≡ 2 → Prefixes p (shared q)
    → trie_bytes τ (below d) (length (at 0 p)) (length (at 1 p)) q ≡ levels.bytes_of 2 τ (below d) p q
unfolding trie_bytes known
part_bytes τ d p q e h = ap (λ (k : Strings). encode (trie 2 τ (below d) k q Forest.none)) (known_prefix p (shared q) e h)

-- ---- the suffixes of a leaf

rest_remains : (p : Strings) (r : List ℕ) → length p ≡ 2 → rest (length (at 0 p)) (length (at 1 p)) r ≡ remains p (slot_key r)
unfolding rest remains strip slot_key
rest_remains [] r e = absurd (omega arith)
rest_remains (a ∷ []) r e = absurd (omega arith)
rest_remains (a ∷ b ∷ []) r e = refl
rest_remains (a ∷ b ∷ c ∷ p) r e = absurd (omega arith)

pub rests_leaf : (rs : List (List ℕ)) → length (shared (map slot_key rs)) ≡ 2
    → rests_bytes (length (at 0 (shared (map slot_key rs)))) (length (at 1 (shared (map slot_key rs)))) rs ≡ leaf_body (map slot_key rs)
unfolding rests_bytes leaf_body
rests_leaf rs e = ap flat (each (shared (map slot_key rs)) e rs)
  where
    each : (p : Strings) → length p ≡ 2 → (rs : List (List ℕ))
        → map (λ r. suffix_bytes (rest (length (at 0 p)) (length (at 1 p)) r)) rs ≡ map suffix_bytes (map (remains p) (map slot_key rs))
    each p e [] = refl
    each p e (r ∷ rs) = ap₂ ◌∷◌ (ap suffix_bytes (rest_remains p r e)) (each p e rs)

-- ---- the root

strip_none : (s : Strings) → length s ≡ 2 → strip ([] ∷ [] ∷ []) s ≡ strip [] s
unfolding strip
strip_none [] e = absurd (omega arith)
strip_none (a ∷ []) e = absurd (omega arith)
strip_none (a ∷ b ∷ []) e = refl
strip_none (a ∷ b ∷ c ∷ s) e = absurd (omega arith)

-- a node has the same bytes behind k and behind k', where the strings have the same left
node_strip : (k k' : Strings) (ks : List Key) (o : Option ℕ) (children : ℕ → Forest) (more : Forest) → strip k (shared ks) ≡ strip k' (shared ks)
    → node k ks o children more ≡ node k' ks o children more
unfolding node
node_strip k k' ks none children more e = rw e
node_strip k k' ks (some d) children more e = rw e

pub root_bytes : (τ : ℕ) (x : Key) (xs : List Key) → length (shared (x ∷ xs)) ≡ 2 → trie_bytes τ root 0 0 (x ∷ xs) ≡ encode (level_of 2 τ (x ∷ xs))
unfolding trie_bytes known level_of
root_bytes τ x xs e =
    let ks : List Key = x ∷ xs in
    ap encode
    (trie_step 2 τ root ([] ∷ [] ∷ []) ks Forest.none
    ∙ node_strip ([] ∷ [] ∷ []) [] ks (choice 2 τ root ks) (λ d. each (trie 2 τ (below d) (shared ks)) (parts d ks)) Forest.none (strip_none (shared ks) e)
    ∙ sym (trie_step 2 τ root [] ks Forest.none))
