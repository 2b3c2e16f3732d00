-- The bytes of a level, as a builder writes them: a leaf is one node with the suffixes of its keys, and the body of an inner
-- node is the bytes of the tries of its parts, one after the other.
use Prim.Native.Nat.{ℕ, suc}
use mathlib.Core.Path.{◌≡◌, refl, sym, ap, ◌∙◌}
use mathlib.Core.Option.{Option, none, some}
use mathlib.Core.List.{List, [], ◌∷◌, ◌++◌, map, append-nil}
use Rattle.trie_theory.specs.Forest.{Strings, Key, Forest}
use Rattle.buffer.specs.Lists.{flat}
use Rattle.trie_theory.specs.Strings.{strip, remains}
use Rattle.trie_theory.specs.Dimensions.{Above, below}
use Rattle.trie_theory.specs.Position.{shared}
use Rattle.trie_theory.specs.Parts.{parts}
use Rattle.trie_theory.specs.Level.{choice, node, each, trie}
use Rattle.trie_theory.specs.Encode.{suffix_bytes, node_bytes, encode}
use Rattle.trie_theory.proofs.LevelStep.{trie_step}

-- a node's bytes, then those of its siblings
node_more : (k : Strings) (ks : List Key) (o : Option ℕ) (children : ℕ → Forest) (more : Forest)
    → encode (node k ks o children more) ≡ encode (node k ks o children Forest.none) ++ encode more
unfolding node encode
node_more k ks none children more =
    ap (λ (b : List ℕ). b ++ encode more) (sym (append-nil (node_bytes 0 (strip k (shared ks)) (flat (map suffix_bytes (map (remains (shared ks)) ks))))))
node_more k ks (some d) children more =
    ap (λ (b : List ℕ). b ++ encode more) (sym (append-nil (node_bytes (suc d) (strip k (shared ks)) (encode (children d)))))

module _ (n τ : ℕ) where
  trie_more : (above : Above) (k : Strings) (ks : List Key) (more : Forest)
      → encode (trie n τ above k ks more) ≡ encode (trie n τ above k ks Forest.none) ++ encode more
  trie_more above k ks more =
      let children : ℕ → Forest = λ d. each (trie n τ (below d) (shared ks)) (parts d ks) in
      ap encode (trie_step n τ above k ks more) ∙ node_more k ks (choice n τ above ks) children more
      ∙ ap (λ (b : List ℕ). b ++ encode more) (sym (ap encode (trie_step n τ above k ks Forest.none)))

  -- the bytes of one trie
  abbrev pub bytes_of : Above → Strings → List Key → List ℕ
  bytes_of above k ks = encode (trie n τ above k ks Forest.none)

  each_bytes : (above : Above) (k : Strings) (ps : List (List Key)) → encode (each (trie n τ above k) ps) ≡ flat (map (bytes_of above k) ps)
  unfolding each encode flat
  each_bytes above k [] = refl
  each_bytes above k (q ∷ ps) =
      trie_more above k q (each (trie n τ above k) ps) ∙ ap (λ (b : List ℕ). bytes_of above k q ++ b) (each_bytes above k ps)

  -- A SET THAT IS NOT PARTITIONED is a leaf ..
  pub leaf_bytes : (above : Above) (k : Strings) (ks : List Key) → choice n τ above ks ≡ none
      → bytes_of above k ks ≡ node_bytes 0 (strip k (shared ks)) (flat (map suffix_bytes (map (remains (shared ks)) ks)))
  unfolding node encode
  leaf_bytes above k ks e = ap encode (trie_step n τ above k ks Forest.none) ∙ rw e (append-nil _)

  -- .. and one that is has the bytes of its parts as its body
  pub inner_bytes : (above : Above) (k : Strings) (ks : List Key) (d : ℕ) → choice n τ above ks ≡ some d
      → bytes_of above k ks ≡ node_bytes (suc d) (strip k (shared ks)) (flat (map (bytes_of (below d) (shared ks)) (parts d ks)))
  unfolding node encode
  inner_bytes above k ks d e =
      ap encode (trie_step n τ above k ks Forest.none)
      ∙ rw e (append-nil (node_bytes (suc d) (strip k (shared ks)) (encode (each (trie n τ (below d) (shared ks)) (parts d ks))))
      ∙ ap (node_bytes (suc d) (strip k (shared ks))) (each_bytes (below d) (shared ks) (parts d ks)))
