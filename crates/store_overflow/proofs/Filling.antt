-- A level filled: gathered slots and the new one, merged, and zeros below. Assumes nothing.
use Prim.Native.Nat.{ℕ, zero, suc, ◌+◌, ◌*◌, ◌-◌, ◌^◌, ◌≤◌, ◌<◌}
use mathlib.Core.Path.{◌≡◌, refl, sym, ap, ap₂, subst, ◌∙◌}
use mathlib.Core.Bool.{true}
use mathlib.Core.List.{List, [], ◌∷◌, ◌++◌, append_assoc, map}
use native.Mathlib.Omega.{arith}
use native.Mathlib.Nat.{mul_assoc, mul-le-mul}
use lib.Pow.{pow_pos}
use lib.ListN.{length, drop, replicate, length-append, length-replicate}
use lib.Seq.{take_at, take_all}
use Rattle.buffer.specs.Lists.{all, flat}
use Rattle.buffer.specs.Splice.{splice, region}
use Rattle.buffer.proofs.Lists.{map_append}
use Rattle.buffer.proofs.Splice.{splice_then, splice_front, length_splice, drop_at_splice, splice_under}
use Rattle.matcher.specs.Bytes.{path_limit}
use Rattle.rows.specs.Sizes.{reference_size, row_size}
use Rattle.rows.specs.Entry.{Entry, fits_row}
use Rattle.rows.specs.Order.{entry_order, record_order}
use Rattle.rows.specs.Sorted.{sorted}
use Rattle.rows.specs.Records.{records}
use Rattle.rows.proofs.Rows.{sorted_records}
use Rattle.rows.proofs.Sorted.{all_sorted}
use Rattle.rows.proofs.Records.{records_append}
use Rattle.trie_theory.specs.Forest.{Key, Forest}
use Rattle.trie_theory.specs.Level.{level_of}
use Rattle.trie_theory.specs.Encode.{encode}
use Rattle.entries.specs.Keys.{entry_key}
use Rattle.entries.specs.Slots.{slot_size, slot, slot_key, short_path}
use Rattle.entries.proofs.Slots.{slot_long, slot_short, records_slots, length_slots}
use Rattle.trie_sets.specs.Sets.{keys_of, short_paths}
use Rattle.trie_build.proofs.Entries.{entries_keys}
use Rattle.buffer.proofs.Lists.{tested_append}
use Rattle.book.specs.Front.{Front, front_room, entry_room, need}
use Rattle.book.specs.Tries.{Tries, every, level_trie}
use Rattle.book.specs.FromTries.{entries_of, entries_in}
use Rattle.book.specs.Image.{padded, Holds}
use Rattle.book.specs.Good.{GoodTries}
use Rattle.book.proofs.Book.{all_snoc}
use Rattle.book.proofs.EntryKeys.{keys_of_entries}
use Rattle.store.specs.Parts.{region_at, region_size, numbered, up_to}
use Rattle.store.proofs.Places.{region_within, good_numbered}
use Rattle.store_overflow.specs.Steps.{slots_at, level_bytes, FirstGathered, LevelFilled}
use Rattle.store_overflow.proofs.LevelBytes.{length_level}
use Rattle.store_overflow.proofs.FirstTries.{entries_next}

-- ---- the most entries of level j

pub record Sized (m l j x : ℕ) : Type 0 where
  pub is : x ≡ m * 2 ^ j
  pub room : entry_room * x ≡ entry_room * m * 2 ^ j
  pub some : 1 ≤ x
  pub most : x ≤ 1048576
  pub fits : front_room + entry_room * x + entry_room * x ≤ need m l

pub sized : (m l j x : ℕ) → 1 ≤ m → j < l → x ≡ m * 2 ^ j → x ≤ 1048576 → Sized m l j x
sized m l j x low h is most =
    let r : entry_room * x ≡ entry_room * m * 2 ^ j = ap (λ (k : ℕ). entry_room * k) is ∙ sym (mul_assoc entry_room m (2 ^ j)) in
    let some : 1 ≤ m * 2 ^ j = mul-le-mul low (pow_pos j) in
    record {
      is = is;
      room = r;
      some = omega arith;
      most = most;
      fits = omega (arith, region_within m l (suc j) h, r);
    }

-- the regions below it end where its own begins
pub before_level : (m l j x : ℕ) → Sized m l j x → (i : ℕ) → i < j + 1 → region_at m i + region_size m i ≤ slots_at (front_room + entry_room * x) x
unfolding need
before_level m l j x z i h = omega (arith, region_within m j i (omega arith), z.room)

-- ---- slots of entries

-- sorted, they have the keys of the entries sorted
slots_keys : (xs : List Entry) → all fits_row xs ≡ true → map slot_key (sorted record_order (map slot xs)) ≡ map entry_key (sorted entry_order xs)
unfolding slot keys_of
slots_keys xs h =
    let ys = sorted entry_order xs in
    let g = all_sorted entry_order fits_row xs h in
    let whole : region (flat (map slot ys)) 0 (length ys * slot_size) ≡ flat (map slot ys) =
    take_all (length ys * slot_size) (flat (map slot ys)) (omega (arith, length_slots ys g)) in
    ap (map slot_key) (sorted_records (λ e. replicate (slot_size - row_size) 0) xs h ∙ sym (records_slots ys g))
    ∙ entries_keys (flat (map slot ys)) 0 ys g whole

-- the entries of good tries have rows
fit_first : (f : Front) (t : Tries) → GoodTries f t → (k : ℕ) → k ≤ suc f.L → all fits_row (flat (map entries_of (up_to k t))) ≡ true
unfolding flat
fit_first f t g zero h = refl
fit_first f t g (suc k) h =
    let own = (keys_of_entries (numbered t k) (good_numbered f t g k (omega arith)).entries).1 in
    ap (all fits_row) (entries_next k t) ∙ tested_append fits_row (flat (map entries_of (up_to k t))) (entries_of (numbered t k))
    (fit_first f t g k (omega arith)) own

-- ---- the level

module _ (m l τ j k x n : ℕ) (e : Entry) (short : length e.path ≤ path_limit) (twenty : length e.reference ≡ reference_size)
    (z : Sized m l j x) (s s₁ s₂ : List ℕ)
    (room : need m l ≤ length s) (low : j < l) (g : FirstGathered m l k (slots_at (front_room + entry_room * x) x) (x - 1) s s₁ n)
    (put : s₂ ≡ splice s₁ (slots_at (front_room + entry_room * x) x + n * slot_size) (slot e)) where
  abbrev base : ℕ
  base = front_room + entry_room * x

  abbrev slots : ℕ
  slots = slots_at base x

  abbrev both : List ℕ
  both = g.bytes ++ slot e

  length_both : length both ≡ (n + 1) * slot_size
  length_both = omega (arith, length-append g.bytes (slot e), g.long, slot_long e short twenty)

  few : n + 1 ≤ x
  few = omega (arith, g.most, z.some)

  inside : slots + length both ≤ length s
  inside = omega (arith, length_both, few, z.fits)

  second : s₂ ≡ splice s slots both
  second = put ∙ splice_then s₁ s slots g.bytes (slots + n * slot_size) (slot e) g.is
      (omega (arith, g.long)) (omega (arith, length_both, length-append g.bytes (slot e), inside))

  long₂ : length s₂ ≡ length s
  long₂ = ap length second ∙ length_splice s slots both inside

  slots_are : records slot_size (n + 1) (drop slots s₂) ≡ records slot_size n g.bytes ++ (slot e ∷ [])
  unfolding records
  slots_are =
      let rest = drop (slots + length both) s in
      ap (λ (t : List ℕ). records slot_size (n + 1) (drop slots t)) second
      ∙ ap (records slot_size (n + 1)) (drop_at_splice s slots both inside ∙ append_assoc g.bytes (slot e) rest)
      ∙ records_append slot_size n 1 g.bytes (slot e ++ rest) g.long
      ∙ ap (λ (r : List ℕ). records slot_size n g.bytes ++ (r ∷ [])) (take_at (slot e) rest slot_size (slot_long e short twenty))

  pub short_slots : short_paths (n + 1) (drop slots s₂) ≡ true
  unfolding short_paths
  short_slots = ap (all short_path) slots_are ∙ all_snoc short_path (records slot_size n g.bytes) (slot e) g.short (slot_short e short twenty)

  abbrev level_bytes_lem : List ℕ
  level_bytes_lem = level_bytes x τ (n + 1) (drop slots s₂)

  length_bytes : length level_bytes_lem ≡ entry_room * x
  length_bytes = length_level s₂ base x (n + 1) τ few (omega (arith, long₂, z.fits)) short_slots

  abbrev zeros : List ℕ
  zeros = replicate (entry_room * x) 0

  length_zeros : length zeros ≡ entry_room * x
  length_zeros = length-replicate {A = ℕ} (entry_room * x) 0

  wrote : (s₃ s₄ : List ℕ) → s₃ ≡ splice s₂ base level_bytes_lem → s₄ ≡ splice s₃ front_room zeros → s₄ ≡ splice s front_room (zeros ++ level_bytes_lem)
  wrote s₃ s₄ a b =
      let third : s₃ ≡ splice s base level_bytes_lem =
      a ∙ ap (λ (t : List ℕ). splice t base level_bytes_lem) second
      ∙ splice_under s slots both base level_bytes_lem (omega arith) (omega (arith, length_both, length_bytes, few))
      (omega (arith, length_bytes, z.fits)) in
      b ∙ splice_front s s₃ front_room base zeros level_bytes_lem third (omega (arith, length_zeros)) (omega (arith, length_bytes, z.fits))

  -- what was gathered, of tries fs
  abbrev FirstFrom : List Forest → Type 0
  FirstFrom fs = let es = flat (map entries_of fs) in length es ≤ x - 1 → (n ≡ length es) × (g.bytes ≡ flat (map slot es))

  -- of good tries: the level of their entries and e
  of_entries : k ≡ suc j → (f : Front) (t : Tries) → f.M ≡ m → f.L ≡ l → GoodTries f t → Holds s f t → fits_row e ≡ true → length (entries_in j t) + 1 ≤ m * 2 ^ j
      → level_bytes_lem ≡ padded (entry_room * x) (encode (level_trie τ (entries_in j t ++ (e ∷ []))))
  unfolding level_bytes level_trie entries_in
  of_entries here f t em el good h fit most =
      let es = flat (map entries_of (every j t)) in
      let xs = es ++ (e ∷ []) in
      let first : FirstFrom (every j t) = subst FirstFrom (ap (λ (i : ℕ). up_to i t) here) (g.entries f t em el good h) in
      let r = first (omega (arith, z.is)) in
      let rows = fit_first f t good (suc j) (omega (arith, el, low)) in
      let all_slots : records slot_size (n + 1) (drop slots s₂) ≡ map slot xs =
      slots_are ∙ ap (λ (rs : List (List ℕ)). rs ++ (slot e ∷ [])) (ap₂ (records slot_size) r.0 r.1 ∙ records_slots es rows)
      ∙ sym (map_append slot es (e ∷ [])) in
      ap (λ (rs : List (List ℕ)). padded (entry_room * x) (encode (level_of 2 τ (map slot_key (sorted record_order rs))))) all_slots
      ∙ ap (λ (ks : List Key). padded (entry_room * x) (encode (level_of 2 τ ks))) (slots_keys xs (all_snoc fits_row es e rows fit))

  pub filled : k ≡ suc j → (s₃ s₄ : List ℕ) → s₃ ≡ splice s₂ base level_bytes_lem → s₄ ≡ splice s₃ front_room zeros → LevelFilled m l τ j e s s₄
  filled here s₃ s₄ a b =
      record {
        bytes = zeros ++ level_bytes_lem;
        is = wrote s₃ s₄ a b;
        long = omega (arith, length-append zeros level_bytes_lem, length_zeros, length_bytes, z.room);
        entries = λ f t em el good h fit most.
            ap (λ (b : List ℕ). zeros ++ b) (of_entries here f t em el good h fit most)
            ∙ ap (λ (k : ℕ). replicate k 0 ++ padded k (encode (level_trie τ (entries_in j t ++ (e ∷ []))))) z.room;
      }
