-- How a set of slots is split: the two dimensions, their positions, and the kind of the node. Assumes nothing.
use mathlib.Core.Path.{◌≡◌, refl}
use mathlib.Core.Bool.{Bool, true, false}
use mathlib.Core.Option.{none}
use Prim.Native.Nat.{ℕ, ◌+◌, ◌≤◌, ◌<◌}
use mathlib.Core.List.{List, map}
use native.Mathlib.Omega.{arith}
use lib.ListN.{length, length-map}
use lib.Dec.{ltb}
use borrow.Author.Tests.{leb-true, lt-ltb, le-ltb}
use Rattle.buffer.specs.Lists.{all}
use Rattle.buffer.proofs.Splice.{length_region}
use Rattle.buffer.proofs.Lists.{all_tested}
use Rattle.rows.specs.Sizes.{value_size, length_at, path_at}
use Rattle.matcher.specs.Bytes.{path_limit}
use Rattle.entries.specs.Slots.{slot_size, slot_key, short_path}
use Rattle.trie_theory.specs.Strings.{at}
use Rattle.trie_theory.specs.Dimensions.{Above, turn}
use Rattle.trie_theory.specs.Position.{shared, differ}
use Rattle.trie_theory.specs.Level.{choice}
use Rattle.trie_sets.specs.Positions.{slot_byte, Alike, Least, passes, OfTwo}
use Rattle.trie_sets.proofs.Sets.{nth, slots_all}
use Rattle.trie_sets.proofs.Slotted.{region_get}
use Rattle.trie_sets.proofs.Turning.{turn_same}
use Rattle.trie_sets.proofs.Sharing.{Dimension, bound_shared, sharing, differing}

-- no path is longer than a path may be
pub path_short : (rs : List (List ℕ)) → all short_path rs ≡ true → (k : ℕ) → k < length rs → slot_byte rs k length_at ≤ path_limit
unfolding short_path
path_short rs short k h = leb-true (slot_byte rs k length_at) path_limit (slots_all {P = λ r. short_path r ≡ true} (all_tested short_path rs short) k h)

module _ {rs : List (List ℕ)} (whole : (k : ℕ) → k < length rs → length (nth rs k) ≡ slot_size) where
  pub value_dimension : Dimension 0 0 rs (λ k. value_size)
  unfolding slot_key
  value_dimension =
      record {
        inside = λ k h. omega arith;
        long = λ k h. length_region (nth rs k) 0 value_size (omega (arith, whole k h));
        bytes = λ k i h l. region_get (nth rs k) 0 value_size i l;
      }

  pub path_dimension : all short_path rs ≡ true → Dimension 1 path_at rs (λ k. slot_byte rs k length_at + 1)
  unfolding slot_key
  path_dimension short =
      record {
        inside = λ k h. omega arith;
        long = λ k h. length_region (nth rs k) path_at (slot_byte rs k length_at + 1) (omega (arith, whole k h, path_short _ short k h));
        bytes = λ k i h l. region_get (nth rs k) path_at (slot_byte rs k length_at + 1) i l;
      }

-- the two positions and what they decide
module _ {rs : List (List ℕ)} (some : 0 < length rs) (whole : (k : ℕ) → k < length rs → length (nth rs k) ≡ slot_size) (short : all short_path rs ≡ true)
    (small : (k i : ℕ) → k < length rs → i < slot_size → slot_byte rs k i < 256) {least : ℕ} (m : Least rs least) where
  pub least_short : least ≤ path_limit
  least_short = omega (arith, m.met.2, path_short _ short m.met.0 m.met.1)

  module _ {from v : ℕ} (known : from ≤ length (at 0 (shared (map slot_key rs)))) (a : Alike rs 0 from value_size v) where
    pub value_shared : length (at 0 (shared (map slot_key rs))) ≡ v
    value_shared = sharing some (value_dimension whole) (λ k h. omega arith) (0, some, refl) known a

    pub value_differs : ltb v value_size ≡ differ 0 (map slot_key rs)
    value_differs = differing some (value_dimension whole) (λ k h. omega arith) (0, some, refl) known a small (omega arith)

  module _ {from p : ℕ} (known : from ≤ length (at 1 (shared (map slot_key rs)))) (a : Alike rs path_at from (least + 1) p) where
    pub path_shared : length (at 1 (shared (map slot_key rs))) ≡ p
    path_shared =
        sharing some (path_dimension whole short) (λ k h. omega (arith, m.low k h)) (m.met.0, m.met.1, omega (arith, m.met.2)) known a

    pub path_differs : ltb p (least + 1) ≡ differ 1 (map slot_key rs)
    path_differs =
        differing some (path_dimension whole short) (λ k h. omega (arith, m.low k h)) (m.met.0, m.met.1, omega (arith, m.met.2)) known a small (omega (arith, least_short))

  -- known bytes are not more than the strings have
  pub value_known : length (at 0 (shared (map slot_key rs))) ≤ value_size
  value_known = bound_shared (value_dimension whole) 0 some

  pub path_known : length (at 1 (shared (map slot_key rs))) ≤ least + 1
  path_known = omega (arith, bound_shared (path_dimension whole short) m.met.0 m.met.1, m.met.2)

-- the dimension in which the node branches
module _ (τ : ℕ) (above : Above) (rs : List (List ℕ)) where
  pub kind_many : OfTwo above → (v p : Bool) → v ≡ differ 0 (map slot_key rs) → p ≡ differ 1 (map slot_key rs) → τ < length rs
      → turn (passes v p) 2 above ≡ choice 2 τ above (map slot_key rs)
  unfolding choice passes
  kind_many two v p e f h =
      let l : ltb τ (length (map slot_key rs)) ≡ true = lt-ltb τ (length (map slot_key rs)) (omega (arith, length-map rs slot_key)) in
      rw l (turn_same (passes v p) (λ d. differ d (map slot_key rs)) above two e f)

  pub kind_few : length rs ≤ τ → none ≡ choice 2 τ above (map slot_key rs)
  unfolding choice
  kind_few h =
      let l : ltb τ (length (map slot_key rs)) ≡ false = le-ltb τ (length (map slot_key rs)) (omega (arith, length-map rs slot_key)) in
      rw l
