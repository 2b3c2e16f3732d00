-- The image of a book fills the need, begins with its numbers, and has each trie in its place: a trie takes at most 245 bytes for each of its
-- entries, and has 1,024.
use Prim.Native.Nat.{ℕ, zero, suc, ◌*◌, ◌-◌, ◌^◌, ◌≤◌, ◌<◌}
use mathlib.Core.Path.{◌≡◌, sym, ap, ◌∙◌, subst}
use mathlib.Core.Bool.{true}
use mathlib.Core.List.{List, ◌++◌, append_assoc, map}
use native.Mathlib.Omega.{arith}
use native.Mathlib.Nat.{mul_assoc, mul-one, pow-suc, pow-zero, mod-lt, mul-le-mul_left}
use lib.ListN.{length, take, drop, replicate, length-append, length-map}
use lib.Seq.{take_at}
use Rattle.buffer.specs.Lists.{all}
use Rattle.buffer.proofs.Lists.{tested_take, tested_drop}
pub use Rattle.buffer.proofs.Lists.{length_padded}
use Rattle.rows.specs.Entry.{Entry}
use Rattle.rows.specs.Order.{entry_order}
use Rattle.rows.specs.Sorted.{sorted}
use Rattle.rows.proofs.Sorted.{all_sorted, length_sorted}
use Rattle.trie_theory.specs.Encode.{encode}
use Rattle.trie_theory.specs.SmallTrie.{small_trie}
use Rattle.trie_theory.specs.TrieOf.{TrieOf}
use Rattle.trie_theory.proofs.TrieOf.{level_entries, small_entries, figures}
use Rattle.entries.specs.Keys.{entry_key}
use Rattle.book.specs.Front.{Front, front_size, front_room, entry_room, front_bytes, in_limits, need}
use Rattle.book.specs.Digits.{digit, quotient, level_size, level_start, level, small}
use Rattle.book.specs.Book.{Book, Sound, front, formed}
use Rattle.book.specs.Tries.{Tries, level_trie, tries}
use Rattle.book.specs.Image.{padded, regions, store_of, image}
use Rattle.book.proofs.Front.{length_front, within}
use Rattle.book.proofs.Digits.{level_length}
use Rattle.book.proofs.Overflow.{small_length}
use Rattle.book.proofs.Keys.{keys_entries}

-- ---- the entries of a trie

pub level_formed : (m i : ℕ) (es : List Entry) → all formed es ≡ true → all formed (level m i es) ≡ true
unfolding level
level_formed m i es a = tested_take formed (level_size m i es) (drop (level_start m i es) es) (tested_drop formed (level_start m i es) es a)

pub small_formed : (m : ℕ) (es : List Entry) → all formed es ≡ true → all formed (small m es) ≡ true
unfolding small
small_formed m es a = tested_drop formed (m * quotient m es) es a

-- a level has no more entries than its region has kilobytes
pub level_few : (m i : ℕ) (es : List Entry) → length (level m i es) ≤ m * 2 ^ i
unfolding digit
level_few m i es =
    let d : digit i (quotient m es) ≤ 1 = omega arith in
    rw (level_length m i es) (subst (λ (x : ℕ). m * 2 ^ i * digit i (quotient m es) ≤ x) (mul-one (m * 2 ^ i)) (mul-le-mul_left (m * 2 ^ i) d))

-- ---- the tries

module _ (es : List Entry) (h : all formed es ≡ true) where
  pub small_trie_of : TrieOf 2 209 (map entry_key es) (small_trie (map entry_key es))
  small_trie_of = (small_entries (map entry_key es) (keys_entries es h)).0

  pub level_trie_of : (τ : ℕ) → TrieOf 2 209 (map entry_key (sorted entry_order es)) (level_trie τ es)
  unfolding level_trie
  level_trie_of τ = (level_entries (map entry_key (sorted entry_order es)) (keys_entries (sorted entry_order es) (all_sorted entry_order formed es h)) τ).0

  small_bytes : length (encode (small_trie (map entry_key es))) ≤ 245 * length es
  small_bytes = subst (λ (n : ℕ). length (encode (small_trie (map entry_key es))) ≤ 245 * n) (length-map es entry_key) (figures small_trie_of).0

  level_bytes_lem : (τ : ℕ) → length (encode (level_trie τ es)) ≤ 245 * length es
  level_bytes_lem τ =
      subst (λ (n : ℕ). length (encode (level_trie τ es)) ≤ 245 * n) (length-map (sorted entry_order es) entry_key ∙ length_sorted entry_order es)
      (figures (level_trie_of τ)).0

-- ---- stores whose tries fit

pub record Fit (m l : ℕ) (t : Tries) : Type 0 where
  pub small : length (encode t.small) ≤ entry_room * m
  pub levels : (i : ℕ) → i < l → length (encode (t.level i)) ≤ entry_room * m * 2 ^ i

-- the small trie and the levels below l end where level l begins
pub length_regions : (m l : ℕ) (t : Tries) → Fit m l t → length (regions m l t) ≡ entry_room * m * 2 ^ l
unfolding regions
length_regions m zero t f = length_padded (entry_room * m) (encode t.small) f.small ∙ sym (rw (pow-zero 2, mul-one (entry_room * m)))
length_regions m (suc l) t f =
    let x = entry_room * m * 2 ^ l in
    let p = length_padded x (encode (t.level l)) (f.levels l (omega arith)) in
    let q : entry_room * m * 2 ^ suc l ≡ x * 2 = ap (λ (k : ℕ). entry_room * m * k) (pow-suc 2 l) ∙ sym (mul_assoc (entry_room * m) (2 ^ l) 2) in
    omega (arith, length_regions m l t (record { small = f.small; levels = λ i h. f.levels i (omega arith) }), length-append (regions m l t) (padded x (encode (t.level l))), p, q)

pub length_top : (f : Front) → length (padded front_room (front_bytes f)) ≡ front_room
length_top f = length_padded front_room (front_bytes f) (let z = length_front f in omega arith)

pub length_store : (f : Front) (t : Tries) → Fit f.M f.L t → length (store_of f t) ≡ need f.M f.L
unfolding store_of need
length_store f t h =
    omega (arith, length-append (padded front_room (front_bytes f)) (regions f.M f.L t), length_top f, length_regions f.M f.L t h)

pub store_front : (f : Front) (t : Tries) → take front_size (store_of f t) ≡ front_bytes f
unfolding store_of padded
store_front f t =
    let zeros : List ℕ = replicate (front_room - length (front_bytes f)) 0 in
    ap (take front_size) (append_assoc (front_bytes f) zeros (regions f.M f.L t)) ∙ take_at (front_bytes f) (zeros ++ regions f.M f.L t) front_size (length_front f)

-- ---- the image

-- within the limits the tries of formed entries fit
pub formed_fit : (b : Book) → in_limits b.M b.L b.τ ≡ true → all formed b.entries ≡ true → Fit b.M b.L (tries b)
unfolding tries
formed_fit b limits whole =
    let w = within b.M b.L b.τ limits in
    let few : length (small b.M b.entries) < b.M = subst (λ (k : ℕ). k < b.M) (sym (small_length b.M b.entries)) (mod-lt (length b.entries) w.m_low) in
    record {
      small = omega (arith, small_bytes (small b.M b.entries) (small_formed b.M b.entries whole));
      levels = λ i h.
          omega (
            arith,
            level_bytes_lem (level b.M i b.entries) (level_formed b.M i b.entries whole) b.τ,
            level_few b.M i b.entries,
            mul_assoc entry_room b.M (2 ^ i),
          );
    }

pub image_fits : (b : Book) → Sound b → Fit b.M b.L (tries b)
image_fits b s = formed_fit b s.limits s.formed

pub length_image : (b : Book) → Sound b → length (image b) ≡ need b.M b.L
unfolding image
length_image b s = length_store (front b) (tries b) (image_fits b s)

pub image_front : (b : Book) → take front_size (image b) ≡ front_bytes (front b)
unfolding image
image_front b = store_front (front b) (tries b)
