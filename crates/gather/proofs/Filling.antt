-- The key buffer: what a suffix and a node write into it. Assumes nothing.
use mathlib.Core.Path.{◌≡◌, refl, sym, ap, ap₂, ◌∙◌}
use mathlib.Core.Bool.{true, false, ◌&&◌}
use Prim.Native.Nat.{ℕ, ◌+◌, ◌-◌, ◌≤◌, ◌<◌}
use mathlib.Core.List.{List, [], ◌∷◌, ◌++◌, append_assoc}
use native.Mathlib.Omega.{arith}
use lib.ListN.{length, take, drop, set, replicate, length-append}
use lib.Dec.{eqb, leb, ltb}
use lib.Seq.{length-take-le, take-take, take_at}
use borrow.Author.Tests.{eqb-true, eq-eqb, leb-true, le-leb, ltb-true, lt-ltb}
use Rattle.buffer.specs.Splice.{splice, region}
use Rattle.buffer.specs.Numbers.{bytes_of}
use Rattle.buffer.proofs.Splice.{length_splice, length_region, splice_from, splice_whole, region_after, region_before, region_at_lem, region_add, take_splice, take_before}
use Rattle.buffer.proofs.Digits.{length_bytes_of}
use Rattle.buffer.proofs.Tests.{and_left, and_right, and_both, not-true}
use Rattle.matcher.specs.Bytes.{path_limit}
use Rattle.rows.specs.Sizes.{value_size, reference_size, reference_at, length_at, path_at, row_size}
use Rattle.rows.specs.Entry.{Entry, row, fits_row}
use Rattle.rows.proofs.Rows.{fits}
use Rattle.rows.proofs.Rows as Rows
use Rattle.trie_theory.specs.Forest.{Key, join, under}
use Rattle.trie_theory.specs.Strings.{at}
use Rattle.entries.specs.Keys.{entry_key}
use Rattle.entries.specs.Slots.{slot_size, slot, short_path}
use Rattle.entries.proofs.Slots.{lead, parts, length_lead, length_parts, parts_path, parts_length, lead_put, parts_put, parts_ended}
use Rattle.entries.proofs.Slots as entries
use Rattle.trie_read.specs.Shape.{key_of}
use Rattle.gather.specs.KeySlots.{ended_limit, has_slot, key_slot, key_row, known}

-- ---- a key with a slot

pub record Slotted (x : Key) : Type 0 where
  pub value : length (at 0 x.strings) ≡ value_size
  pub reference : length x.reference ≡ reference_size
  pub ended : 0 < length (at 1 x.strings)
  pub short : length (at 1 x.strings) ≤ ended_limit

pub slotted : (x : Key) → has_slot x ≡ true → Slotted x
unfolding has_slot
slotted x h =
    let a = eqb (length (at 0 x.strings)) value_size in
    let b = eqb (length x.reference) reference_size in
    let c = ltb 0 (length (at 1 x.strings)) in
    let d = leb (length (at 1 x.strings)) ended_limit in
    let t = and_right a (b && (c && d)) h in
    record {
      value = eqb-true (length (at 0 x.strings)) value_size (and_left a (b && (c && d)) h);
      reference = eqb-true (length x.reference) reference_size (and_left b (c && d) t);
      ended = ltb-true 0 (length (at 1 x.strings)) (and_left c d (and_right b (c && d) t));
      short = leb-true (length (at 1 x.strings)) ended_limit (and_right c d (and_right b (c && d) t));
    }

pub has_slot_lem : (x : Key) → Slotted x → has_slot x ≡ true
unfolding has_slot
has_slot_lem x h =
    and_both (eq-eqb (length (at 0 x.strings)) value_size h.value)
    (and_both (eq-eqb (length x.reference) reference_size h.reference)
    (and_both (lt-ltb 0 (length (at 1 x.strings)) h.ended) (le-leb (length (at 1 x.strings)) ended_limit h.short)))

slot_parts : (x : Key) → key_slot x ≡ parts (at 0 x.strings) x.reference (length (at 1 x.strings) - 1) (at 1 x.strings)
unfolding key_slot parts
slot_parts x = refl

module _ (x : Key) (h : has_slot x ≡ true) where
  abbrev w : Slotted x
  w = slotted x h

  abbrev p : List ℕ
  p = at 1 x.strings

  pub length_slot : length (key_slot x) ≡ slot_size
  length_slot = rw (slot_parts x) (length_parts (at 0 x.strings) x.reference (length p - 1) w.value w.reference p (omega (arith, w.short)))

  pub short_slot : short_path (key_slot x) ≡ true
  unfolding short_path
  short_slot =
      rw (slot_parts x, parts_length (at 0 x.strings) x.reference (length p - 1) w.value w.reference p)
      (le-leb (length p - 1) path_limit (omega (arith, w.short)))

  pub length_row : length (key_row x) ≡ row_size
  unfolding key_row
  length_row = length-take-le row_size (key_slot x) (omega (arith, length_slot))

  -- what stands in a slot: no proof cites these two, which say how a key is read back from its slot
  pub slot_value : take value_size (key_slot x) ≡ at 0 x.strings
  unfolding parts
  slot_value = rw (slot_parts x) (take_at (at 0 x.strings) _ value_size w.value)

  pub slot_path : region (key_slot x) path_at (length p) ≡ p
  slot_path = rw (slot_parts x, parts_path (at 0 x.strings) x.reference (length p - 1) w.value w.reference p) (take_at p _ (length p) refl)

-- ---- the key of an entry

pub entry_has : (e : Entry) → fits_row e ≡ true → has_slot (entry_key e) ≡ true
unfolding entry_key
entry_has e h =
    let f = fits e h in
    let l = length-append e.path (0 ∷ []) in
    has_slot_lem (entry_key e) record { value = length_bytes_of value_size e.value; reference = f.full; ended = omega arith; short = omega (arith, f.short) }

pub entry_slot : (e : Entry) → fits_row e ≡ true → key_slot (entry_key e) ≡ slot e
unfolding entry_key
entry_slot e h =
    let n : length (e.path ++ (0 ∷ [])) - 1 ≡ length e.path = omega (arith, length-append e.path (0 ∷ [])) in
    let s = (fits e h).short in
    rw (slot_parts (entry_key e), n) (parts_ended (bytes_of value_size e.value) e.reference (length e.path) e.path (omega arith) ∙ entries.slot_parts e s)

-- its row is the entry's
pub entry_row : (e : Entry) → fits_row e ≡ true → key_row (entry_key e) ≡ row e
unfolding key_row slot
entry_row e h = ap (take row_size) (entry_slot e h) ∙ take_at (row e) _ row_size (Rows.length_row e h)

-- ---- what is known

pub known_same : (v p : ℕ) (k k' : List ℕ) → take v k ≡ take v k' → region k path_at p ≡ region k' path_at p → known v p k ≡ known v p k'
unfolding known
known_same v p k k' a b = ap₂ (λ (x y : List ℕ). x ∷ y ∷ []) a b

-- where more is the same, less is
pub known_less : (v p w q : ℕ) (k k' : List ℕ) → v ≤ w → p ≤ q → known w q k ≡ known w q k' → known v p k ≡ known v p k'
unfolding known
known_less v p w q k k' h l e =
    let a : take w k ≡ take w k' = cc in
    let b : region k path_at q ≡ region k' path_at q = cc in
    known_same v p k k'
    (sym (take-take v w k h) ∙ ap (take v) a ∙ take-take v w k' h)
    (sym (take-take p q (drop path_at k) l) ∙ ap (take p) b ∙ take-take p q (drop path_at k') l)

-- ---- the writes of a suffix

module _ (k a b r : List ℕ) (v p n : ℕ) (lk : length k ≡ slot_size) (la : v + length a ≡ value_size) (lr : length r ≡ reference_size)
    (ln : p + length b ≡ n) (one : 1 ≤ n) (lb : n ≤ ended_limit) where
  abbrev key : Key
  key = under (known v p k) (key_of a b r)

  abbrev value : List ℕ
  value = take v k ++ a

  abbrev path : List ℕ
  path = region k path_at p ++ b

  length_value : length value ≡ value_size
  length_value = omega (arith, length-append (take v k) a, length-take-le v k (omega arith))

  length_path : length path ≡ n
  length_path = omega (arith, length-append (region k path_at p) b, length_region k path_at p (omega arith))

  key_slotted : Slotted key
  unfolding under join known
  key_slotted = record { value = length_value; reference = lr; ended = omega (arith, length_path); short = omega (arith, length_path) }

  abbrev front : List ℕ
  front = lead value r (n - 1)

  abbrev filler : List ℕ
  filler = replicate (slot_size - path_at - n) 0

  key_slot_lem : key_slot key ≡ parts value r (n - 1) path
  unfolding under join known
  key_slot_lem = rw (slot_parts key, length_path) refl

  fronted : set (splice (splice k v a) reference_at r) length_at (n - 1) ≡ splice k 0 front
  fronted =
      let z : v - 0 ≡ v = omega arith in
      let first : splice k v a ≡ splice k 0 value = rw z at (splice_from k 0 v a (omega arith) (omega arith)) in
      rw first (lead_put value r (n - 1) length_value lr k 0 (omega arith))

  -- behind the front the known path bytes stand, and the rest goes behind them
  pathed : splice (splice k 0 front) (path_at + p) b ≡ splice (splice k 0 front) path_at path
  pathed =
      let s = splice k 0 front in
      let long = length_lead value r (n - 1) length_value lr in
      let fit : 0 + length front ≤ length k = omega (arith, long) in
      let z : path_at + p - path_at ≡ p = omega arith in
      let q : splice s (path_at + p) b ≡ splice s path_at (region s path_at p ++ b) =
      rw z at (splice_from s path_at (path_at + p) b (omega arith) (omega (arith, length_splice k 0 front fit))) in
      q ∙ ap (λ (l : List ℕ). splice s path_at (l ++ b)) (region_after k 0 front fit path_at p (omega (arith, long)))

  -- the buffer after all writes
  pub filled_has : has_slot key ≡ true
  filled_has = has_slot_lem key key_slotted

  pub filled : splice (splice (set (splice (splice k v a) reference_at r) length_at (n - 1)) (path_at + p) b) (path_at + n) filler ≡ key_slot key
  filled =
      let long : length (parts value r (n - 1) path) ≡ slot_size = length_parts value r (n - 1) length_value lr path (omega (arith, length_path)) in
      let put : splice (splice (splice k 0 front) path_at path) (path_at + n) filler ≡ splice k 0 (parts value r (n - 1) path) =
      rw length_path at (parts_put value r (n - 1) length_value lr k 0 path (omega (arith, length_path)) (omega arith)) in
      rw (fronted, pathed, put) (splice_whole k (parts value r (n - 1) path) (omega (arith, long)) ∙ sym key_slot_lem)

  first_kept : take v (parts value r (n - 1) path) ≡ take v k
  unfolding parts
  first_kept = rw (append_assoc (take v k) a) (take_at (take v k) _ v (length-take-le v k (omega arith)))

  second_kept : region (parts value r (n - 1) path) path_at p ≡ region k path_at p
  second_kept =
      rw (parts_path value r (n - 1) length_value lr path, append_assoc (region k path_at p) b)
      (take_at (region k path_at p) _ p (length_region k path_at p (omega arith)))

  -- what is known stays
  pub filled_kept : known v p (key_slot key) ≡ known v p k
  filled_kept = rw key_slot_lem (known_same v p (parts value r (n - 1) path) k first_kept second_kept)

-- a slot there is exactly where they come to a value and a path
slot_lengths : (k a b r : List ℕ) (v p : ℕ) → length k ≡ slot_size → v ≤ value_size → p ≤ ended_limit → has_slot (under (known v p k) (key_of a b r)) ≡ true
    → (v + length a ≡ value_size) × (length r ≡ reference_size) × (1 ≤ p + length b) × (p + length b ≤ ended_limit)
unfolding under join known
slot_lengths k a b r v p lk lv lp h =
    let w = slotted (under (known v p k) (key_of a b r)) h in
    let value : length (take v k ++ a) ≡ v + length a = omega (arith, length-append (take v k) a, length-take-le v k (omega arith)) in
    let path : length (region k path_at p ++ b) ≡ p + length b = omega (arith, length-append (region k path_at p) b, length_region k path_at p (omega arith)) in
    (sym value ∙ w.value, w.reference, omega (arith, w.ended), omega (arith, w.short))

pub unfilled : (k a b r : List ℕ) (v p : ℕ) → length k ≡ slot_size → v ≤ value_size → p ≤ ended_limit
    → (v + length a ≡ value_size → 1 ≤ p + length b → p + length b ≤ ended_limit → ⊥) → has_slot (under (known v p k) (key_of a b r)) ≡ false
unfilled k a b r v p lk lv lp h =
    not-true (has_slot (under (known v p k) (key_of a b r))) (λ e. let w = slot_lengths k a b r v p lk lv lp e in h w.0 w.2 w.3)

-- a slot made of known bytes and a suffix has the known bytes where they were
pub slot_kept : (k a b r : List ℕ) (v p : ℕ) → length k ≡ slot_size → v ≤ value_size → p ≤ ended_limit → has_slot (under (known v p k) (key_of a b r)) ≡ true
    → known v p (key_slot (under (known v p k) (key_of a b r))) ≡ known v p k
slot_kept k a b r v p lk lv lp h =
    let w = slot_lengths k a b r v p lk lv lp h in
    filled_kept k a b r v p (p + length b) lk w.0 w.1 refl w.2 w.3

-- ---- the writes of a node

module _ (k a b : List ℕ) (v p w q : ℕ) (lk : length k ≡ slot_size) (wa : v + length a ≡ w) (qb : p + length b ≡ q) (la : w ≤ value_size) (lb : q ≤ ended_limit) where
  abbrev now : List ℕ
  now = splice (splice k v a) (path_at + p) b

  length_half : length (splice k v a) ≡ length k
  length_half = length_splice k v a (omega arith)

  fit : path_at + p + length b ≤ length (splice k v a)
  fit = omega (arith, length_half)

  path_kept : region now path_at p ≡ region k path_at p
  path_kept = region_before (splice k v a) (path_at + p) b fit path_at p (omega arith) ∙ region_after k v a (omega arith) path_at p (omega arith)

  pub entered_kept : known v p now ≡ known v p k
  entered_kept =
      known_same v p now k (take_before (splice k v a) (path_at + p) b fit v (omega arith) ∙ take_before k v a (omega arith) v (omega arith)) path_kept

  pub entered_joins : known w q now ≡ join (known v p k) (a ∷ b ∷ [])
  unfolding known join
  entered_joins =
      let value : take w now ≡ take v k ++ a = rw (← wa) (take_before (splice k v a) (path_at + p) b fit (v + length a) (omega arith) ∙ take_splice k v a (omega arith)) in
      let path : region now path_at q ≡ region k path_at p ++ b =
      rw (← qb) (region_add now path_at p (length b) ∙ ap₂ ◌++◌ path_kept (region_at_lem (splice k v a) (path_at + p) b fit)) in
      ap₂ (λ (x y : List ℕ). x ∷ y ∷ []) value path
