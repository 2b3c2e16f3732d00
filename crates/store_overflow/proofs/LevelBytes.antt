-- Slots sorted, and the level of their keys built before them. Assumes nothing.
use Prim.Native.Nat.{ℕ, zero, suc, ◌+◌, ◌*◌, ◌-◌, ◌≤◌}
use mathlib.Core.Path.{◌≡◌, refl, sym, ap, ◌∙◌}
use mathlib.Core.Bool.{true}
use mathlib.Core.List.{List, [], ◌++◌, map}
use native.Mathlib.Omega.{arith}
use lib.ListN.{length, take, drop, replicate, length-append, length-drop, length-replicate}
use Rattle.buffer.specs.Lists.{all, flat}
use Rattle.buffer.specs.Splice.{splice, region}
use Rattle.buffer.proofs.Splice.{length_splice, drop_at_splice, splice_under}
use Rattle.buffer.proofs.Tests.{and_left, and_right, and_both}
use Rattle.rows.specs.Order.{record_order}
use Rattle.rows.specs.Sorted.{sorted}
use Rattle.rows.specs.Records.{records}
use Rattle.rows.proofs.Sorted.{all_sorted, length_sorted}
use Rattle.rows.proofs.Records.{wide, length_joined, length_records, records_joined, records_wide}
use Rattle.trie_theory.specs.Forest.{Key}
use Rattle.trie_theory.specs.Level.{level_of}
use Rattle.trie_theory.specs.Encode.{encode}
use Rattle.entries.specs.Slots.{slot_size, slot_key, short_path}
use Rattle.trie_sets.specs.Sets.{keys_of, short_paths}
use Rattle.trie_sets.proofs.Slotted.{slots_part}
use Rattle.trie_build.specs.Build.{Built}
use Rattle.trie_build.proofs.Level.{level_fits}
use Rattle.trie_build.proofs.Frames.{built_over}
use Rattle.book.specs.Front.{entry_room}
use Rattle.book.specs.Image.{padded}
use Rattle.store_overflow.specs.Steps.{slots_at, level_bytes}

-- fewer slots
pub fewer_short : (k n : ℕ) (t : List ℕ) → k ≤ n → short_paths n t ≡ true → short_paths k t ≡ true
unfolding short_paths records
fewer_short zero n t h a = refl
fewer_short (suc k) zero t h a = absurd (omega arith)
fewer_short (suc k) (suc n) t h a =
    let x = short_path (take slot_size t) in
    let rest = all short_path (records slot_size n (drop slot_size t)) in
    and_both (and_left x rest a) (fewer_short k n (drop slot_size t) (omega arith) (and_right x rest a))

module _ (s : List ℕ) (slots n : ℕ) (h : slots + n * slot_size ≤ length s) where
  abbrev rs : List (List ℕ)
  rs = sorted record_order (records slot_size n (drop slots s))

  -- what `sort` writes
  pub sorts : {s₁ : List ℕ} → s₁ ≡ splice s slots (flat (sorted record_order (records slot_size n (region s slots (n * slot_size)))))
      → s₁ ≡ splice s slots (flat rs)
  sorts e = e ∙ ap (λ (l : List (List ℕ)). splice s slots (flat (sorted record_order l))) (slots_part n (n * slot_size) (drop slots s) (omega arith))

  count_is : length rs ≡ n
  count_is = length_sorted record_order (records slot_size n (drop slots s)) ∙ length_records slot_size n (drop slots s)

  wide_are : all (wide slot_size) rs ≡ true
  wide_are = all_sorted record_order (wide slot_size) (records slot_size n (drop slots s))
      (records_wide slot_size n (drop slots s) (rw (length-drop slots s) (omega arith)))

  pub length_sorts : length (flat rs) ≡ n * slot_size
  length_sorts = length_joined slot_size rs wide_are ∙ ap (λ (k : ℕ). k * slot_size) count_is

  pub sorted_slots : records slot_size n (drop slots (splice s slots (flat rs))) ≡ rs
  sorted_slots =
      let rest = drop (slots + length (flat rs)) s in
      ap (records slot_size n) (drop_at_splice s slots (flat rs) (omega (arith, length_sorts)))
      ∙ ap (λ (k : ℕ). records slot_size k (flat rs ++ rest)) (sym count_is) ∙ records_joined slot_size rs rest wide_are

  pub sorted_short : short_paths n (drop slots s) ≡ true → short_paths n (drop slots (splice s slots (flat rs))) ≡ true
  unfolding short_paths
  sorted_short a = ap (all short_path) sorted_slots ∙ all_sorted record_order short_path (records slot_size n (drop slots s)) a

  pub sorted_keys : keys_of n (drop slots (splice s slots (flat rs))) ≡ map slot_key rs
  unfolding keys_of
  sorted_keys = ap (map slot_key) sorted_slots

-- THE LEVEL, over all of its region
module _ (s s₁ s₂ : List ℕ) (base size n τ used : ℕ) (few : n ≤ size) (room : base + entry_room * size ≤ length s)
    (short : short_paths n (drop (slots_at base size) s) ≡ true)
    (first : s₁ ≡ splice s (slots_at base size) (flat (sorted record_order (records slot_size n (drop (slots_at base size) s))))) where
  abbrev slots : ℕ
  slots = slots_at base size

  abbrev scratch : ℕ
  scratch = slots + size * slot_size

  abbrev trie_bytes_lem : List ℕ
  trie_bytes_lem = encode (level_of 2 τ (keys_of n (drop slots s₁)))

  inside : slots + n * slot_size ≤ length s
  inside = omega arith

  pub same_long : length s₁ ≡ length s
  same_long =
      let w = flat (sorted record_order (records slot_size n (drop slots s))) in
      ap length first ∙ length_splice s slots w (omega (arith, length_sorts s slots n inside))

  pub short_now : short_paths n (drop slots s₁) ≡ true
  short_now = rw first (sorted_short s slots n inside short)

  -- it ends before the slots
  pub trie_fits : length trie_bytes_lem ≤ 245 * n
  trie_fits = level_fits s₁ slots n τ short_now (omega (arith, same_long))

  bytes_are : trie_bytes_lem ++ replicate (entry_room * size - length trie_bytes_lem) 0 ≡ level_bytes size τ n (drop slots s)
  unfolding level_bytes padded
  bytes_are =
      let k : keys_of n (drop slots s₁) ≡ map slot_key (sorted record_order (records slot_size n (drop slots s))) = rw first
      (sorted_keys s slots n inside) in
      ap (λ (ks : List Key). let b = encode (level_of 2 τ ks) in b ++ replicate (entry_room * size - length b) 0) k

  pub merged : Built s₁ base slots scratch n trie_bytes_lem s₂ → used ≡ length trie_bytes_lem
      → splice s₂ (base + used) (replicate (entry_room * size - used) 0) ≡ splice s base (level_bytes size τ n (drop slots s))
  merged b u =
      let z : List ℕ = replicate (entry_room * size - length trie_bytes_lem) 0 in
      let lz : length z ≡ entry_room * size - length trie_bytes_lem = length-replicate {A = ℕ} (entry_room * size - length trie_bytes_lem) 0 in
      let w = flat (sorted record_order (records slot_size n (drop slots s))) in
      let lw = length_sorts s slots n inside in
      rw u (built_over s₁ s₂ base slots scratch n trie_bytes_lem z b
      (omega (arith, trie_fits)) (omega arith) (omega (arith, trie_fits)) (omega (arith, trie_fits, same_long)))
      ∙ ap (λ (x : List ℕ). splice x base (trie_bytes_lem ++ z)) first
      ∙ splice_under s slots w base (trie_bytes_lem ++ z)
      (omega arith) (omega (arith, length-append trie_bytes_lem z, trie_fits)) (omega (arith, length-append trie_bytes_lem z, trie_fits))
      ∙ ap (splice s base) bytes_are

pub length_level : (s : List ℕ) (base size n τ : ℕ) → n ≤ size → base + entry_room * size ≤ length s → short_paths n (drop (slots_at base size) s) ≡ true
    → length (level_bytes size τ n (drop (slots_at base size) s)) ≡ entry_room * size
length_level s base size n τ few room short =
    let slots = slots_at base size in
    let rs = flat (sorted record_order (records slot_size n (drop slots s))) in
    let s₁ = splice s slots rs in
    let f = trie_fits s s₁ [] base size n τ 0 few room short refl in
    let b = encode (level_of 2 τ (keys_of n (drop slots s₁))) in
    ap length (sym (bytes_are s s₁ [] base size n τ 0 few room short refl))
    ∙ omega (arith, length-append b (replicate (entry_room * size - length b) 0), length-replicate {A = ℕ} (entry_room * size - length b) 0, f)
