-- The held number written, and the small trie and the held number written. Assumes nothing.
use mathlib.Core.Path.{◌≡◌, sym, ap, ◌∙◌}
use Prim.Native.Nat.{ℕ, ◌+◌, ◌*◌, ◌≤◌, ◌<◌}
use mathlib.Core.List.{List}
use native.Mathlib.Omega.{arith}
use lib.ListN.{length, take, drop, length-map}
use Rattle.buffer.specs.Numbers.{bytes_of, number}
use Rattle.buffer.specs.Splice.{splice, region}
use Rattle.buffer.proofs.Digits.{length_bytes_of, number_bytes_of}
use Rattle.buffer.proofs.Splice.{length_splice, drop_after, region_at_lem, region_before, region_take}
use Rattle.rows.specs.Entry.{Entry}
use Rattle.trie_theory.specs.Dimensions.{root}
use Rattle.trie_theory.specs.SmallTrie.{added}
use Rattle.trie_theory.specs.Encode.{encode}
use Rattle.trie_theory.proofs.TrieOf.{figures}
use Rattle.entries.specs.Keys.{entry_key}
use Rattle.book.specs.Front.{front_size, held_at, front_room, entry_room, front_of, holding, need}
use Rattle.book.specs.Book.{Book, Sound, held, front, put}
use Rattle.book.specs.Digits.{small}
use Rattle.book.specs.Tries.{tries}
use Rattle.book.specs.Image.{image, padded, Holds}
use Rattle.book.proofs.Regions.{small_at}
use Rattle.book.proofs.Image.{length_image, image_fits, small_formed, small_trie_of}
use Rattle.book.proofs.Writes.{as_held, write_within, add_small}
use Rattle.store.proofs.Places.{region_within}

-- the four numbers read back: M, L and τ as before
pub held_back : (store s : List ℕ) (n : ℕ) → front_room ≤ length s → front_room ≤ length store → take front_room s ≡ take front_room store
    → front_of (splice s held_at (bytes_of 4 n)) ≡ holding n (front_of store)
unfolding front_of
held_back store s n h k kept =
    let four : length (bytes_of 4 n) ≡ 4 = length_bytes_of 4 n in
    let fits : held_at + length (bytes_of 4 n) ≤ length s = omega arith in
    let held : region (splice s held_at (bytes_of 4 n)) held_at 4 ≡ bytes_of 4 n = rw four at (region_at_lem s held_at (bytes_of 4 n) fits) in
    let same : (o : ℕ) → o + 4 ≤ held_at → region (splice s held_at (bytes_of 4 n)) o 4 ≡ region store o 4 =
    λ o l. region_before s held_at (bytes_of 4 n) fits o 4 l ∙ region_take s front_room o 4 (omega arith) h ∙ ap (λ (t : List ℕ). region t o 4) kept ∙ sym (region_take store front_room o 4 (omega arith) k) in
    λ i.
    record {
      M = number (same 0 (omega arith) i);
      L = number (same 4 (omega arith) i);
      τ = number (same 8 (omega arith) i);
      held = (ap number held ∙ number_bytes_of 3 n) i;
    }

-- what stands before its end does not matter to what stands behind
pub held_beyond : (s : List ℕ) (n k : ℕ) → front_size ≤ k → k ≤ length s → drop k (splice s held_at (bytes_of 4 n)) ≡ drop k s
held_beyond s n k h l =
    let four : length (bytes_of 4 n) ≡ 4 = length_bytes_of 4 n in
    drop_after s held_at (bytes_of 4 n) (omega arith) k (omega arith)

pub held_size : (s : List ℕ) (n : ℕ) → front_size ≤ length s → length (splice s held_at (bytes_of 4 n)) ≡ length s
held_size s n h = length_splice s held_at (bytes_of 4 n) (omega (arith, length_bytes_of 4 n))

-- the region of the small trie lies within the need
pub small_inside : (m l : ℕ) → front_room + entry_room * m ≤ need m l
small_inside m l = region_within m l 0 (omega arith)

-- A BOOK WHOSE SMALL TRIE STAYS BELOW M ENTRIES
module _ (b : Book) (e : Entry) (s : Sound b) (s' : Sound (put e b)) (below : length (small b.M b.entries) + 1 < b.M) (store : List ℕ)
    (h : Holds store (front b) (tries b)) where
  -- it has room for one entry more
  pub small_room : length (encode (tries b).small) + 245 ≤ entry_room * b.M
  unfolding tries
  small_room =
      let es = small b.M b.entries in
      let k = (figures (small_trie_of es (small_formed b.M b.entries s.formed))).0 in
      omega (arith, k, length-map es entry_key, below)

  pub small_image : (own : List ℕ) → own ≡ padded (entry_room * b.M) (encode (added root (tries b).small (entry_key e))) → length own ≡ entry_room * b.M
      → splice (splice store small_at own) held_at (bytes_of 4 (held b + 1)) ≡ splice store 0 (image (put e b))
  unfolding image
  small_image own is size =
      let a = image b in
      let n : length a ≡ need b.M b.L = length_image b s in
      let k = small_inside b.M b.L in
      let q : small_at + length own ≤ length a = omega (arith, n, k, size) in
      let r : length a ≤ length store = omega (arith, n, h.enough) in
      let y = splice a small_at own in
      let ly : length y ≡ length a = length_splice a small_at own q in
      let first : splice store small_at own ≡ splice store 0 y = write_within store a store small_at own (as_held h (image_fits b s)) r q in
      write_within store y (splice store small_at own) held_at (bytes_of 4 (held b + 1)) first (omega (arith, ly, r)) (omega (arith, ly, n, k, length_bytes_of 4 (held b + 1)))
      ∙ ap (splice store 0) (ap (λ (x : List ℕ). splice (splice a small_at x) held_at (bytes_of 4 (held b + 1))) is ∙ add_small b e s s' below)
