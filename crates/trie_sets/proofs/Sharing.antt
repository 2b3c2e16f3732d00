-- From bytes that slots have in common to the discriminative position, in any dimension. Assumes nothing.
use mathlib.Core.Path.{◌≡◌, refl, sym, ◌∙◌}
use mathlib.Core.Bool.{Bool, true, false}
use Prim.Native.Nat.{ℕ, zero, suc, ◌+◌, ◌≤◌, ◌<◌}
use mathlib.Core.List.{List, [], ◌∷◌, map}
use native.Mathlib.Omega.{arith}
use lib.ListN.{length, get_or, take, drop}
use lib.Seq.{get_or-take, length-take-le}
use lib.Dec.{ltb}
use borrow.Author.Tests.{ltb-true, ltb-false, lt-ltb, le-ltb}
use Rattle.buffer.specs.Lists.{all, All}
use Rattle.buffer.proofs.Lists.{all_imp, all_test, all_tested}
use Rattle.buffer.proofs.Tests.{not_both, not-true}
use Rattle.entries.specs.Slots.{slot_size, slot_key}
use Rattle.trie_theory.specs.Forest.{Strings, Key}
use Rattle.trie_theory.specs.Strings.{at, first}
use Rattle.trie_theory.specs.Position.{shared, byte, differ}
use Rattle.trie_theory.proofs.Prefix.{Prefix, Prefixes, shared_all, shared_greatest, prefixes_at, prefix_length}
use Rattle.trie_theory.proofs.Differ.{byte_at}
use Rattle.trie_sets.specs.Positions.{slot_byte, Alike}
use Rattle.trie_sets.proofs.Sets.{nth, all_keys, keys_all}

-- ---- prefixes by their bytes

pub prefix_get : (p s : List ℕ) → Prefix p s → (i : ℕ) → i < length p → get_or p i 0 ≡ get_or s i 0
unfolding Prefix
prefix_get [] s h i l = absurd (omega arith)
prefix_get (a ∷ p) [] h i l = absurd h
prefix_get (a ∷ p) (b ∷ s) h zero l = h.0
prefix_get (a ∷ p) (b ∷ s) h (suc i) l = prefix_get p s h.1 i (omega arith)

pub prefix_ext : (p s : List ℕ) → length p ≤ length s → ((i : ℕ) → i < length p → get_or p i 0 ≡ get_or s i 0) → Prefix p s
unfolding Prefix
prefix_ext [] s l f = tt
prefix_ext (a ∷ p) [] l f = absurd (omega arith)
prefix_ext (a ∷ p) (b ∷ s) l f = (f 0 (omega arith), prefix_ext p s (omega arith) (λ i h. f (suc i) (omega arith)))

-- bytes in dimension d alone
only : ℕ → List ℕ → Strings
only zero p = p ∷ []
only (suc d) p = [] ∷ only d p

at_only : (d : ℕ) (p : List ℕ) → at d (only d p) ≡ p
unfolding only
at_only zero p = refl
at_only (suc d) p = at_only d p

only_prefixes : (d : ℕ) (p : List ℕ) (s : Strings) → d < length s → Prefix p (at d s) → Prefixes (only d p) s
unfolding only Prefixes Prefix
only_prefixes d p [] h q = absurd (omega arith)
only_prefixes zero p (s ∷ ss) h q = (q, tt)
only_prefixes (suc d) p (s ∷ ss) h q = (tt, only_prefixes d p ss (omega arith) q)

-- what begins every key in dimension d begins what they share there
pub shared_longest : (d : ℕ) (p : List ℕ) {x : Key} {xs : List Key} → All (λ y. (d < length y.strings) × Prefix p (at d y.strings)) (x ∷ xs)
    → Prefix p (at d (shared (x ∷ xs)))
shared_longest d p {x} {xs} a =
    rw (at_only d p) at
    (prefixes_at d (only d p) (shared (x ∷ xs)) (shared_greatest (only d p) (all_imp (λ y q. only_prefixes d p y.strings q.0 q.1) a)))

-- ---- one dimension of slots: strings of len k bytes that begin at `start` in slot k

-- the key of slot k
abbrev pub key_at : List (List ℕ) → ℕ → Key
key_at rs k = slot_key (nth rs k)

pub record Dimension (d start : ℕ) (rs : List (List ℕ)) (len : ℕ → ℕ) : Type 0 where
  pub inside : (k : ℕ) → k < length rs → d < length (key_at rs k).strings
  pub long : (k : ℕ) → k < length rs → length (at d (key_at rs k).strings) ≡ len k
  pub bytes : (k i : ℕ) → k < length rs → i < len k → get_or (at d (key_at rs k).strings) i 0 ≡ slot_byte rs k (start + i)

-- the first byte of what is left of a string
pub first_of : (s : List ℕ) (j : ℕ) → j < length s → first zero (drop j s ∷ []) ≡ get_or s j 0
unfolding first
first_of [] j h = absurd (omega arith)
first_of (b ∷ s) zero h = refl
first_of (b ∷ s) (suc j) h = first_of s j (omega arith)

pub first_end : (s : List ℕ) (j : ℕ) → length s ≤ j → first zero (drop j s ∷ []) ≡ 256
unfolding first
first_end [] zero h = refl
first_end [] (suc j) h = refl
first_end (b ∷ s) zero h = absurd (omega arith)
first_end (b ∷ s) (suc j) h = first_end s j (omega arith)

-- no string is shorter than what all share
pub bound_shared : {d start : ℕ} {rs : List (List ℕ)} {len : ℕ → ℕ} → Dimension d start rs len → (k : ℕ) → k < length rs
    → length (at d (shared (map slot_key rs))) ≤ len k
bound_shared {d} {start} {rs} {len} dim k h =
    let q : Prefix (at d (shared (map slot_key rs))) (at d (key_at rs k).strings) =
    keys_all rs (all_imp (λ x h. prefixes_at d (shared (map slot_key rs)) x.strings h) (shared_all (map slot_key rs))) k h in
    omega (arith, dim.long k h, prefix_length (at d (shared (map slot_key rs))) (at d (key_at rs k).strings) q)

-- j is the number of bytes that the strings share, the limit the least of their lengths
module _ {d start : ℕ} {rs : List (List ℕ)} (some : 0 < length rs) {len : ℕ → ℕ} (dim : Dimension d start rs len) {from limit j : ℕ}
    (low : (k : ℕ) → k < length rs → limit ≤ len k) (met : (k : ℕ) × (k < length rs) × (limit ≡ len k))
    (known : from ≤ length (at d (shared (map slot_key rs)))) (a : Alike rs start from limit j) where
  shared_bytes : List ℕ
  shared_bytes = at d (shared (map slot_key rs))

  begins_each : (k : ℕ) → k < length rs → Prefix shared_bytes (at d (key_at rs k).strings)
  unfolding shared_bytes
  begins_each = keys_all rs (all_imp (λ x h. prefixes_at d (shared (map slot_key rs)) x.strings h) (shared_all (map slot_key rs)))

  -- a byte that is shared
  shared_byte : (k i : ℕ) → k < length rs → i < length shared_bytes → i < len k → get_or shared_bytes i 0 ≡ slot_byte rs k (start + i)
  shared_byte k i h l u = prefix_get shared_bytes (at d (key_at rs k).strings) (begins_each k h) i l ∙ dim.bytes k i h u

  own : List ℕ
  own = at d (key_at rs 0).strings

  alike_all : (k i : ℕ) → k < length rs → i < j → slot_byte rs k (start + i) ≡ slot_byte rs 0 (start + i)
  unfolding shared_bytes
  alike_all k i h u = go (ltb i from) refl
    where
      go : (b : Bool) → ltb i from ≡ b → slot_byte rs k (start + i) ≡ slot_byte rs 0 (start + i)
      go true e =
          let l = ltb-true i from e in
          sym (shared_byte k i h (omega arith) (omega (arith, low k h, a.high)))
          ∙ shared_byte 0 i some (omega arith) (omega (arith, low 0 some, a.high))
      go false e = let l = ltb-false i from e in a.alike k i h (omega arith) u

  as_long : j ≤ length shared_bytes
  unfolding shared_bytes own
  as_long =
      let l0 = dim.long 0 some in
      let lj : length (take j own) ≡ j = length-take-le j own (omega (arith, low 0 some, a.high)) in
      let each : (k : ℕ) → k < length rs → (d < length (key_at rs k).strings) × Prefix (take j own) (at d (key_at rs k).strings) =
      λ k h. (
        dim.inside k h,
        prefix_ext (take j own) (at d (key_at rs k).strings) (omega (arith, dim.long k h, low k h, a.high))
            (λ i u.
            get_or-take j own i 0 (omega arith) ∙ dim.bytes 0 i some (omega (arith, low 0 some, a.high))
            ∙ sym (alike_all k i h (omega arith)) ∙ sym (dim.bytes k i h (omega (arith, low k h, a.high)))),
      ) in
      let q : Prefix (take j own) (at d (shared (map slot_key rs))) = greatest rs some (all_keys rs each) in
      omega (arith, prefix_length (take j own) (at d (shared (map slot_key rs))) q)
    where
      greatest : (rs : List (List ℕ)) → 0 < length rs → All (λ y. (d < length y.strings) × Prefix (take j own) (at d y.strings)) (map slot_key rs)
          → Prefix (take j own) (at d (shared (map slot_key rs)))
      greatest [] h b = absurd (omega arith)
      greatest (r ∷ rs) h b = shared_longest d (take j own) b

  no_longer : length shared_bytes ≤ j
  no_longer = go (ltb j limit) refl (ltb j (length shared_bytes)) refl
    where
      go : (b : Bool) → ltb j limit ≡ b → (c : Bool) → ltb j (length shared_bytes) ≡ c → length shared_bytes ≤ j
      go true e true f =
          let l = ltb-true j limit e in
          let u = ltb-true j (length shared_bytes) f in
          let w = a.apart l in
          absurd (w.2 (sym (shared_byte w.0 j w.1 u (omega (arith, low w.0 w.1))) ∙ shared_byte 0 j some u (omega (arith, low 0 some))))
      go true e false f = ltb-false j (length shared_bytes) f
      go false e c f =
          let l = ltb-false j limit e in
          omega (arith, a.high, met.2, dim.long met.0 met.1, prefix_length shared_bytes (at d (key_at rs met.0).strings) (begins_each met.0 met.1))

  -- THE POSITION
  pub sharing : length (at d (shared (map slot_key rs))) ≡ j
  unfolding shared_bytes
  sharing = omega (arith, as_long, no_longer)

  byte_of : (k : ℕ) → byte d (shared (map slot_key rs)) (key_at rs k) ≡ first zero (drop j (at d (key_at rs k).strings) ∷ [])
  byte_of k = rw sharing at (byte_at d (shared (map slot_key rs)) (key_at rs k))

  -- THE KEYS DIFFER where the position is inside the shortest string
  pub differing : ((k i : ℕ) → k < length rs → i < slot_size → slot_byte rs k i < 256) → start + limit ≤ slot_size → ltb j limit ≡ differ d (map slot_key rs)
  unfolding differ
  differing small fits = go (ltb j limit) refl
    where
      test : Key → Bool
      test x = ltb (byte d (shared (map slot_key rs)) x) 256

      go : (b : Bool) → ltb j limit ≡ b → b ≡ all test (map slot_key rs)
      go true e =
          let l = ltb-true j limit e in
          sym (all_test test (all_keys rs (λ k h.
          let u : j < len k = omega (arith, low k h) in
          let v : byte d (shared (map slot_key rs)) (key_at rs k) ≡ slot_byte rs k (start + j) =
          byte_of k ∙ first_of (at d (key_at rs k).strings) j (omega (arith, dim.long k h)) ∙ dim.bytes k j h u in
          lt-ltb (byte d (shared (map slot_key rs)) (key_at rs k)) 256 (rw v (small k (start + j) h (omega arith))))))
      go false e =
          let l = ltb-false j limit e in
          sym (not-true (all test (map slot_key rs)) (λ y.
          let k = met.0 in
          let z = keys_all rs (all_tested test (map slot_key rs) y) k met.1 in
          let v : byte d (shared (map slot_key rs)) (key_at rs k) ≡ 256 =
          byte_of k ∙ first_end (at d (key_at rs k).strings) j (omega (arith, dim.long k met.1, met.2)) in
          not_both z (rw v (le-ltb 256 256 (omega arith)))))
