-- The strings of a node as bytes of its first slot, and the room that a trie takes. Assumes nothing.
use mathlib.Core.Path.{◌≡◌, refl, sym, ap, ◌∙◌}
use mathlib.Core.Bool.{true}
use mathlib.Core.Option.{Option, none, some}
use Prim.Native.Nat.{ℕ, suc, ◌+◌, ◌-◌, ◌≤◌, ◌<◌}
use mathlib.Core.List.{List, [], ◌∷◌, ◌++◌, map}
use native.Mathlib.Omega.{arith}
use native.Mathlib.Nat.{zero-add}
use lib.ListN.{length, drop, length-append, length-drop}
use lib.Seq.{ext_get_or, get_or-drop}
use Rattle.buffer.specs.Lists.{all}
use Rattle.buffer.specs.Splice.{region}
use Rattle.buffer.proofs.Lists.{all_imp}
use Rattle.buffer.proofs.Splice.{length_region}
use Rattle.rows.specs.Sizes.{length_at, path_at}
use Rattle.entries.specs.Slots.{slot_size, slot_key, short_path}
use Rattle.trie_theory.specs.Forest.{Key}
use Rattle.trie_theory.specs.Strings.{at}
use Rattle.trie_theory.specs.Dimensions.{Above}
use Rattle.trie_theory.specs.Position.{shared}
use Rattle.trie_theory.specs.Level.{choice}
use Rattle.trie_theory.proofs.Prefix.{Prefix, prefixes_at, shared_all}
use Rattle.trie_theory.proofs.Strings.{length_shared}
use Rattle.trie_read.specs.Heads.{front}
use Rattle.trie_read.proofs.Node.{length_front}
use Rattle.trie_read.specs.declared.kind.Kind.{Kind}
use Rattle.trie_sets.specs.Positions.{slot_byte, Split}
use Rattle.trie_sets.proofs.Sets.{nth, all_keys, keys_all}
use Rattle.trie_sets.proofs.Sharing.{key_at, Dimension, prefix_get, bound_shared}
use Rattle.trie_sets.proofs.Slotted.{region_get}
use Rattle.trie_sets.proofs.Splitting.{value_dimension, path_dimension, path_short}
use Rattle.trie_build.specs.Steps.{Ready, trie_bytes}
use Rattle.trie_build.proofs.Noding.{leaf_body, inner_body, leaf_node, inner_node}

-- keys of slots have two strings, and so has what they share
pub shared_two : (rs : List (List ℕ)) → 0 < length rs → length (shared (map slot_key rs)) ≡ 2
shared_two [] h = absurd (omega arith)
shared_two (r ∷ rs) h = length_shared 2 (all_keys {P = λ y. length y.strings ≡ 2} (r ∷ rs) (λ k l. unfold slot_key in refl))

-- what is shared in dimension d, from byte v on, stands in the first slot
node_string : {d start : ℕ} {rs : List (List ℕ)} {len : ℕ → ℕ} → Dimension d start rs len → 0 < length rs → (v : ℕ) → v ≤ length (at d (shared (map slot_key rs)))
    → start + len 0 ≤ length (nth rs 0) → drop v (at d (shared (map slot_key rs))) ≡ region (nth rs 0) (start + v) (length (at d (shared (map slot_key rs))) - v)
node_string {d} {start} {rs} {len} dim h v l r =
    let p : List ℕ = at d (shared (map slot_key rs)) in
    let b = bound_shared dim 0 h in
    let q : Prefix p (at d (key_at rs 0).strings) =
    keys_all rs (all_imp (λ x w. prefixes_at d (shared (map slot_key rs)) x.strings w) (shared_all (map slot_key rs))) 0 h in
    let lr : length (region (nth rs 0) (start + v) (length p - v)) ≡ length p - v = length_region (nth rs 0) (start + v) (length p - v) (omega arith) in
    ext_get_or 0 (drop v p) (region (nth rs 0) (start + v) (length p - v)) (length-drop v p ∙ sym lr)
    (λ i u.
    let w : i < length p - v = omega (arith, length-drop v p) in
    let z : start + (v + i) ≡ start + v + i = omega arith in
    get_or-drop v p i 0 ∙ prefix_get p (at d (key_at rs 0).strings) q (v + i) (omega arith) ∙ dim.bytes 0 (v + i) h (omega arith)
    ∙ ap (λ (j : ℕ). slot_byte rs 0 j) z ∙ sym (region_get (nth rs 0) (start + v) (length p - v) i w))

module _ (rs : List (List ℕ)) (h : 0 < length rs) (whole : (k : ℕ) → k < length rs → length (nth rs k) ≡ slot_size) (short : all short_path rs ≡ true) where
  pub value_string : (v : ℕ) → v ≤ length (at 0 (shared (map slot_key rs)))
      → drop v (at 0 (shared (map slot_key rs))) ≡ region (nth rs 0) (0 + v) (length (at 0 (shared (map slot_key rs))) - v)
  value_string v l = node_string (value_dimension whole) h v l (omega (arith, whole 0 h))

  pub path_string : (v : ℕ) → v ≤ length (at 1 (shared (map slot_key rs)))
      → drop v (at 1 (shared (map slot_key rs))) ≡ region (nth rs 0) (path_at + v) (length (at 1 (shared (map slot_key rs))) - v)
  path_string v l = node_string (path_dimension whole short) h v l (omega (arith, whole 0 h, path_short rs short 0 h))

  pub path_each : (k : ℕ) → k < length rs → length (at 1 (shared (map slot_key rs))) ≤ slot_byte rs k length_at + 1
  path_each k l = bound_shared (path_dimension whole short) k l

-- the head and the strings are a part of a trie's bytes
pub trie_room_lem : (τ : ℕ) (above : Above) (v p : ℕ) (ks : List Key) → length (shared ks) ≡ 2 → v ≤ length (at 0 (shared ks)) → p ≤ length (at 1 (shared ks))
    → 7 + (length (at 0 (shared ks)) - v) + (length (at 1 (shared ks)) - p) ≤ length (trie_bytes τ above v p ks)
trie_room_lem τ above v p ks w h l = go (choice 2 τ above ks) refl
  where
    a : List ℕ
    a = drop v (at 0 (shared ks))

    b : List ℕ
    b = drop p (at 1 (shared ks))

    long : (kind : ℕ) (body : List ℕ) → length (front kind (a ∷ b ∷ []) (length body) ++ body)
        ≡ 7 + (length (at 0 (shared ks)) - v) + (length (at 1 (shared ks)) - p) + length body
    long kind body =
        omega (arith, length-append (front kind (a ∷ b ∷ []) (length body)) body, length_front kind (a ∷ b ∷ []) (length body), length-drop v (at 0 (shared ks)), length-drop p (at 1 (shared ks)))

    go : (o : Option ℕ) → choice 2 τ above ks ≡ o
        → 7 + (length (at 0 (shared ks)) - v) + (length (at 1 (shared ks)) - p) ≤ length (trie_bytes τ above v p ks)
    go none e = omega (arith, ap length (leaf_node τ above v p ks w h l e) ∙ long 0 (leaf_body ks))
    go (some d) e = omega (arith, ap length (inner_node τ above v p ks w h l d e) ∙ long (suc d) (inner_body τ d ks))

-- the bytes taken from the first slot are the strings of the node
pub node_strings : (rs : List (List ℕ)) → ((k : ℕ) → k < length rs → length (nth rs k) ≡ slot_size) → {room τ : ℕ} {above : Above} {v p : ℕ} → Ready room rs τ above v p
    → {kind : Kind} {value path : ℕ} → Split τ above (map slot_key rs) kind value path → let q = shared (map slot_key rs) in
    (region (nth rs 0) v (value - v) ≡ drop v (at 0 q)) × (region (nth rs 0) (path_at + p) (path_at + path - (path_at + p)) ≡ drop p (at 1 q))
node_strings rs whole {v = v} {p = p} a {value = value} {path = path} o =
    let count : path_at + path - (path_at + p) ≡ path - p = omega arith in (
      sym (value_string rs a.some whole a.short v a.value_known ∙ rw (zero-add v, o.value_is) refl),
      sym (path_string rs a.some whole a.short p a.path_known ∙ rw (count, o.path_is) refl),
    )

-- they have room
pub strings_room : (rs : List (List ℕ)) → {room τ : ℕ} {above : Above} {v p : ℕ} → Ready room rs τ above v p
    → 7 + length (drop v (at 0 (shared (map slot_key rs)))) + length (drop p (at 1 (shared (map slot_key rs)))) ≤ room
strings_room rs {τ = τ} {above = above} {v = v} {p = p} a =
    let q = shared (map slot_key rs) in
    omega (arith, trie_room_lem τ above v p (map slot_key rs) (shared_two rs a.some) a.value_known a.path_known, a.fits, length-drop v (at 0 q), length-drop p (at 1 q))
