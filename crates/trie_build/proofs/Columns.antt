-- The byte at which keys part, as a byte in a column of their slots; the partition of slots is the partition of their keys.
-- Assumes nothing.
use mathlib.Core.Path.{◌≡◌, refl, sym, ap, ap₂, ◌∙◌}
use mathlib.Core.Bool.{Bool, true, false, cond}
use Prim.Native.Nat.{ℕ, zero, suc, ◌+◌, ◌≤◌, ◌<◌}
use mathlib.Core.List.{List, [], ◌∷◌, ◌++◌, map}
use native.Mathlib.Omega.{arith}
use native.Mathlib.Nat.{zero-add}
use lib.ListN.{length, get_or, drop, length-take}
use lib.Dec.{eqb, ltb}
use borrow.Author.Tests.{ltb-true, ltb-false}
use Rattle.buffer.specs.Lists.{All, nil, cons, pick, flat}
use Rattle.buffer.proofs.Lists.{map_append, all_unmap}
use Rattle.buffer.specs.Splice.{region}
use Rattle.rows.specs.Sizes.{value_size, length_at, path_at}
use Rattle.entries.specs.Slots.{slot_key}
use Rattle.trie_theory.specs.Forest.{Strings, Key}
use Rattle.trie_theory.specs.Strings.{at, first}
use Rattle.trie_theory.specs.Position.{shared, byte, differ}
use Rattle.trie_theory.specs.Parts.{keep, parts_from, parts}
use Rattle.trie_theory.proofs.Parts.{flat_parts, differ_all}
use Rattle.trie_theory.proofs.Differ.{byte_at}
use Rattle.trie_sets.specs.Partition.{with_byte, by_bytes}
use Rattle.trie_build.specs.Steps.{column_of}
use Rattle.trie_sets.proofs.Sharing.{first_of, first_end}
use Rattle.trie_sets.proofs.Slotted.{region_get}

-- the two columns, by cases on the dimension. No proof cites them: docs/PORT.md names them
pub column_path : (d value path : ℕ) → 1 ≤ d → path_at + path ≡ column_of d value path
column_path zero value path h = absurd (omega arith)
column_path (suc d) value path h = refl

pub column_value : (d value path : ℕ) → d < 1 → value ≡ column_of d value path
column_value zero value path h = refl
column_value (suc d) value path h = absurd (omega arith)

-- the first byte behind j bytes of a stretch, where there is one
first_region : (r : List ℕ) (a n j : ℕ) → first zero (drop j (region r a n) ∷ []) < 256 → first zero (drop j (region r a n) ∷ []) ≡ get_or r (a + j) 0
first_region r a n j h = go (ltb j (length (region r a n))) refl
  where
    go : (b : Bool) → ltb j (length (region r a n)) ≡ b → first zero (drop j (region r a n) ∷ []) ≡ get_or r (a + j) 0
    go true e =
        let l = ltb-true j (length (region r a n)) e in
        first_of (region r a n) j l ∙ region_get r a n j (omega (arith, length-take n (drop a r)))
    go false e =
        let l = ltb-false j (length (region r a n)) e in
        absurd (omega (arith, first_end (region r a n) j l))

-- the column in which keys that share p part in dimension d
abbrev pub column : ℕ → Strings → ℕ
column d p = column_of d (length (at 0 p)) (length (at 1 p))

-- THE BYTE OF A KEY at a position is the byte of its slot in that column
pub slot_first : (d : ℕ) (p : Strings) (r : List ℕ) → d < 2 → byte d p (slot_key r) < 256 → byte d p (slot_key r) ≡ get_or r (column d p) 0
unfolding slot_key
slot_first zero p r u h =
    let e = byte_at 0 p (slot_key r) in
    e ∙ rw (zero-add (length (at 0 p))) at (first_region r 0 value_size (length (at 0 p)) (rw e at h))
slot_first (suc zero) p r u h =
    let e = byte_at 1 p (slot_key r) in
    e ∙ first_region r path_at (get_or r length_at 0 + 1) (length (at 1 p)) (rw e at h)
slot_first (suc (suc d)) p r u h = absurd (omega arith)

module _ (d : ℕ) (p : Strings) (u : d < 2) where
  -- slots picked by their byte are keys picked by theirs
  with_keep : (b : ℕ) {rs : List (List ℕ)} → All (λ r. byte d p (slot_key r) < 256) rs
      → map slot_key (with_byte (column d p) b rs) ≡ keep d p b (map slot_key rs)
  unfolding with_byte keep pick
  with_keep b nil = refl
  with_keep b (cons {x = r} {xs = rs} h a) =
      rw (← slot_first d p r u h) (go (eqb (byte d p (slot_key r)) b) (with_keep b a))
    where
      go : (w : Bool) → map slot_key (pick (λ r. eqb (get_or r (column d p) 0) b) rs) ≡ pick (λ x. eqb (byte d p x) b) (map slot_key rs)
          → map slot_key (cond w (r ∷ pick (λ r. eqb (get_or r (column d p) 0) b) rs) (pick (λ r. eqb (get_or r (column d p) 0) b) rs))
          ≡ cond w (slot_key r ∷ pick (λ x. eqb (byte d p x) b) (map slot_key rs)) (pick (λ x. eqb (byte d p x) b) (map slot_key rs))
      go true e = ap (λ (l : List Key). slot_key r ∷ l) e
      go false e = e

  by_parts : (f b : ℕ) {rs : List (List ℕ)} → All (λ r. byte d p (slot_key r) < 256) rs
      → map slot_key (by_bytes (column d p) f b rs) ≡ flat (parts_from d p f b (map slot_key rs))
  by_parts zero b {rs} a = unfold by_bytes in unfold parts_from in unfold flat in refl
  by_parts (suc f) b {rs} a =
      step ∙ ap₂ ◌++◌ (with_keep b a) (by_parts f (suc b) a) ∙ sym (flat_parts d p f b (map slot_key rs))
    where
      step : map slot_key (by_bytes (column d p) (suc f) b rs) ≡ map slot_key (with_byte (column d p) b rs) ++ map slot_key (by_bytes (column d p) f (suc b) rs)
      step = unfold by_bytes in map_append slot_key (with_byte (column d p) b rs) (by_bytes (column d p) f (suc b) rs)

-- SLOTS SORTED BY THE COLUMN are the parts of their keys, one after the other
pub slots_parts : (d : ℕ) (rs : List (List ℕ)) → d < 2 → differ d (map slot_key rs) ≡ true
    → map slot_key (by_bytes (column d (shared (map slot_key rs))) 256 0 rs) ≡ flat (parts d (map slot_key rs))
unfolding parts
slots_parts d rs u e =
    by_parts d (shared (map slot_key rs)) u 256 0
    (all_unmap slot_key (λ r h. h) rs (differ_all d (map slot_key rs) e))
