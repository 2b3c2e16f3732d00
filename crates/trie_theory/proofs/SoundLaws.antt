-- What holds of every sound trie, a level's or a small one: it has keys, which go on from the strings of its nodes, and it
-- has at most 2 N - 1 nodes, so many bytes, and so much height.
use Prim.Native.Nat.{ℕ, suc, ◌+◌, ◌*◌, ◌≤◌}
use mathlib.Core.Path.{◌≡◌, refl, sym, ◌∙◌}
use mathlib.Core.List.{List, [], ◌∷◌, map}
use native.Mathlib.Omega.{arith}
use lib.ListN.{length, get_or, length-append, length-map}
use Rattle.trie_theory.specs.Forest.{Strings, Key, Forest, none, leaf, inner, join, under, keys, tops}
use Rattle.buffer.specs.Lists.{All, nil, sum}
use Rattle.trie_theory.specs.Strings.{strip, total}
use Rattle.trie_theory.specs.Dimensions.{Above, root, below, branching}
use Rattle.trie_theory.specs.Sound.{Starts, Wide, Node, Sound}
use Rattle.trie_theory.specs.Size.{cost, nodes, height}
use Rattle.buffer.proofs.Lists.{all_append, all_left, all_right, all_map, all_head, all_every, all_imp}
use Rattle.buffer.proofs.Sums.{sum_append, sum_map, sum_more, sum_most}
use Rattle.trie_theory.proofs.Prefix.{From, prefixes_join, prefixes_trans}
use Rattle.trie_theory.proofs.Strings.{length_join, total_join, total_strip, total_strip_strip, some_total}
use Rattle.trie_theory.proofs.Keys.{all_keys, keys_from}

-- the strings of the first trie
abbrev pub top : Forest → Strings
top f = get_or (tops f) 0 []

pub top_starts : (n : ℕ) (above : Above) (f : Forest) → Sound n above f → 1 ≤ length (tops f) → Starts above (top f)
unfolding Sound tops
top_starts n above none h w = absurd (omega arith)
top_starts n above (leaf s ts more) h w = h.0.starts
top_starts n above (inner d s children more) h w = h.0.starts

-- a root has no siblings: a sound trie is one tree, or none
pub root_single : (n : ℕ) (s : Strings) (more : Forest) → Node n root s more → more ≡ none
unfolding tops branching
root_single n s none h = refl
root_single n s (leaf t ts more) h = absurd (all_head h.apart refl)
root_single n s (inner d t children more) h = absurd (all_head h.apart refl)

-- A SOUND TRIE HAS A KEY, which goes on from the strings of its root
pub some_key : {P : Key → Type 0} (n : ℕ) (above : Above) (k : Strings) (f : Forest)
    → Sound n above f → 1 ≤ length (tops f) → All P (keys k f) → (x : Key) × P x × From (join k (top f)) x
unfolding Sound tops keys under
some_key n above k none h w a = absurd (omega arith)
some_key n above k (leaf s [] more) h w a = absurd (omega (arith, h.1))
some_key n above k (leaf s (t ∷ ts) more) h w a = (under (join k s) t, all_head a, prefixes_join (join k s) t.strings)
some_key n above k (inner d s children more) h w a =
    let r = some_key n (below d) (join k s) children h.2 (omega (arith, h.1)) (all_left (keys (join k s) children) (keys k more) a) in
    (r.0, r.1, prefixes_trans (join k s) (join (join k s) (top children)) r.0.strings (prefixes_join (join k s) (top children)) r.2)

-- its keys have n strings
pub wide_keys : (n : ℕ) (above : Above) (f : Forest) → Sound n above f → All (Wide n) (keys [] f)
unfolding Sound keys join under
wide_keys n above none h = nil
wide_keys n above (leaf s ts more) h =
    all_append (all_map (under s) (λ y e. length_join s y.strings (h.0.wide ∙ sym e) ∙ h.0.wide) h.2)
    (wide_keys n above more h.3)
wide_keys n above (inner d s children more) h =
    all_append {xs = keys s children}
    (rw (keys_from s children) (all_map (under s) (λ y e. length_join s y.strings (h.0.wide ∙ sym e) ∙ h.0.wide)
    (wide_keys n (below d) children h.2)))
    (wide_keys n above more h.3)

-- THE NODES of N keys are at most 2 N - 1
pub nodes_known : (n : ℕ) (above : Above) (k : Strings) (f : Forest) → Sound n above f
    → nodes f + length (tops f) ≤ 2 * length (keys k f)
unfolding Sound tops keys nodes
nodes_known n above k none h = omega arith
nodes_known n above k (leaf s ts more) h =
    omega (
      arith,
      h.1,
      nodes_known n above k more h.3,
      length-append (map (under (join k s)) ts) (keys k more),
      length-map ts (under (join k s)),
    )
nodes_known n above k (inner d s children more) h =
    omega (
      arith,
      h.1,
      nodes_known n (below d) (join k s) children h.2,
      nodes_known n above k more h.3,
      length-append (keys (join k s) children) (keys k more),
    )

tops_nodes : (f : Forest) → length (tops f) ≤ nodes f
unfolding tops nodes
tops_nodes none = omega arith
tops_nodes (leaf s ts more) = omega (arith, tops_nodes more)
tops_nodes (inner d s children more) = omega (arith, tops_nodes more)

-- each tree has a key
pub keys_many : (n : ℕ) (above : Above) (k : Strings) (f : Forest) → Sound n above f → length (tops f) ≤ length (keys k f)
keys_many n above k f h = omega (arith, nodes_known n above k f h, tops_nodes f)

-- a byte to begin with, except at the root
spare : Above → ℕ
spare root = 1
spare (below d) = 0

starts_byte : (above : Above) (s : Strings) → Starts above s → 1 ≤ total s + spare above
unfolding Starts spare
starts_byte root s h = omega arith
starts_byte (below d) s h = omega (arith, some_total d s h)

-- the bytes known at a node are no more than its keys have
known_fits : (m n : ℕ) (above : Above) (k : Strings) (f : Forest) → Sound n above f → 1 ≤ length (tops f)
    → All (λ x. total x.strings ≤ m) (keys k f) → total k + total (top f) ≤ m
known_fits m n above k f h w a = go (some_key n above k f h w a)
  where
    go : (x : Key) × (total x.strings ≤ m) × From (join k (top f)) x → total k + total (top f) ≤ m
    go (x, l, e) = omega (arith, l, total_strip (join k (top f)) x.strings e, total_join k (top f))

height_known : (m n : ℕ) (above : Above) (k : Strings) (f : Forest) → Sound n above f
    → All (λ x. total x.strings ≤ m) (keys k f) → total k ≤ m → total k + height f ≤ m + spare above
unfolding Sound height keys tops spare
height_known m n above k none h a e = omega arith
height_known m n above k (leaf s ts more) h a e =
    omega (
      arith,
      known_fits m n above k (leaf s ts more) h (omega arith) a,
      starts_byte above s h.0.starts,
      height_known m n above k more h.3 (all_right (map (under (join k s)) ts) (keys k more) a) e,
    )
height_known m n above k (inner d s children more) h a e =
    let known = known_fits m n above k (inner d s children more) h (omega arith) a in
    omega (
      arith,
      height_known m n (below d) (join k s) children h.2 (all_left (keys (join k s) children) (keys k more) a)
          (omega (arith, known, total_join k s)),
      total_join k s,
      starts_byte above s h.0.starts,
      height_known m n above k more h.3 (all_right (keys (join k s) children) (keys k more) a) e,
    )

-- THE HEIGHT is at most one more than the most bytes of a key
pub height_bound : (m n : ℕ) (f : Forest) → Sound n root f → All (λ x. total x.strings ≤ m) (keys [] f) → height f ≤ suc m
unfolding spare total
height_bound m n f h a = omega (arith, height_known m n root [] f h a (omega arith))

-- what a key below k is reckoned at: two nodes, a suffix and its bytes behind k
abbrev share : ℕ → ℕ → Strings → Key → ℕ
share h u k x = h + h + u + total (strip k x.strings)

module _ (h u n : ℕ) where
  heads_two : (ts : List Strings) → 2 ≤ length ts → h + h ≤ sum (λ t. h) ts
  unfolding sum
  heads_two [] l = absurd (omega arith)
  heads_two (t ∷ []) l = absurd (omega arith)
  heads_two (t ∷ t' ∷ ts) l = omega arith

  -- each byte of a key stands once, each node has its share in one of its keys and one is left over for each sibling
  cost_known : (above : Above) (k : Strings) (f : Forest) → Sound n above f
      → cost h u f + sum (λ t. h) (tops f) ≤ sum (share h u k) (keys k f)
  unfolding Sound cost keys tops sum under
  cost_known above k none w = omega arith
  cost_known above k (leaf s ts more) w =
      omega (
        arith,
        cost_known above k more w.3,
        sum_append (share h u k) (map (under (join k s)) ts) (keys k more),
        sum_map (share h u k) (under (join k s)) ts,
        sum_more (h + h + total s) (λ t. u + total t.strings) (λ t. share h u k (under (join k s) t)) w.1
            (all_every ts (λ t. omega (
              arith,
              total_strip k (join (join k s) t.strings) (prefixes_trans k (join k s) (join (join k s) t.strings)
                  (prefixes_join k s) (prefixes_join (join k s) t.strings)),
              total_join k s,
              total_join (join k s) t.strings,
            ))),
      )
  cost_known above k (inner d s children more) w =
      omega (
        arith,
        cost_known (below d) (join k s) children w.2,
        heads_two (tops children) w.1,
        cost_known above k more w.3,
        sum_append (share h u k) (keys (join k s) children) (keys k more),
        sum_more (total s) (share h u (join k s)) (share h u k)
            (omega (arith, w.1, keys_many n (below d) (join k s) children w.2))
            (all_imp (λ x e. omega (
              arith,
              total_strip_strip k (join k s) x.strings (prefixes_join k s) e,
              total_strip k (join k s) (prefixes_join k s),
              total_join k s,
            )) (all_keys (join k s) children)),
      )

  -- THE BYTES of keys of at most m bytes
  pub cost_bound : (m : ℕ) (f : Forest) → Sound n root f → All (λ x. total x.strings ≤ m) (keys [] f)
      → cost h u f ≤ (h + h + u + m) * length (keys [] f)
  unfolding strip
  cost_bound m f w a = omega (arith, cost_known root [] f w, sum_most (share h u []) (h + h + u + m) (all_imp (λ x l. omega arith) a))
