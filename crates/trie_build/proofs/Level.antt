-- The whole level: it fits its room, and the builder of a set at the root writes it. Assumes nothing.
use mathlib.Core.Path.{◌≡◌, refl, ap, ◌∙◌}
use mathlib.Core.Bool.{true}
use Prim.Native.Nat.{ℕ, ◌+◌, ◌*◌, ◌-◌, ◌≤◌, ◌<◌}
use mathlib.Core.List.{List, [], ◌∷◌, map}
use native.Mathlib.Omega.{arith}
use lib.ListN.{length, take, drop, length-drop, length-map}
use lib.Seq.{length-take-le}
use Rattle.buffer.specs.Sizes.{four_byte_limit}
use Rattle.buffer.specs.Lists.{all}
use Rattle.buffer.proofs.Splice.{length_region}
use Rattle.rows.specs.Records.{records}
use Rattle.rows.specs.Sizes.{reference_size, reference_at}
use Rattle.rows.proofs.Records.{length_records, table_whole}
use Rattle.entries.specs.Slots.{slot_size, slot_key, short_path}
use Rattle.trie_theory.specs.Strings.{total}
use Rattle.trie_theory.specs.Sound.{Wide}
use Rattle.trie_theory.specs.Dimensions.{root}
use Rattle.trie_theory.specs.Level.{level_of}
use Rattle.trie_theory.specs.Encode.{encode, WholeReference}
use Rattle.trie_theory.proofs.TrieOf.{level_trie_lem, figures}
use Rattle.trie_sets.specs.Sets.{keys_of, short_paths, slots_of}
use Rattle.trie_build.specs.Build.{trie_room, Built}
use Rattle.trie_build.specs.Steps.{Ready, trie_bytes}
use Rattle.trie_sets.proofs.Sets.{nth, all_keys}
use Rattle.trie_sets.proofs.Sharing.{key_at}
use Rattle.trie_sets.proofs.Slotted.{slot_whole, slots_part, drop_take}
use Rattle.trie_sets.proofs.Splitting.{value_dimension, path_dimension, path_short}
use Rattle.trie_build.proofs.Opening.{shared_two}
use Rattle.trie_build.proofs.Noding.{root_bytes}

module _ (rs : List (List ℕ)) (τ : ℕ) (whole : (k : ℕ) → k < length rs → length (nth rs k) ≡ slot_size) (short : all short_path rs ≡ true) where
  key_total : (k : ℕ) → k < length rs → total (key_at rs k).strings ≤ 209
  unfolding total slot_key
  key_total k h =
      omega (arith, (value_dimension whole).long k h, (path_dimension whole short).long k h, path_short rs short k h)

  key_twenty : (k : ℕ) → k < length rs → WholeReference (key_at rs k)
  unfolding slot_key
  key_twenty k h = length_region (nth rs k) reference_at reference_size (omega (arith, whole k h))

  key_wide : (k : ℕ) → k < length rs → Wide 2 (key_at rs k)
  unfolding slot_key
  key_wide k h = refl

  level_room : length (encode (level_of 2 τ (map slot_key rs))) ≤ trie_room * length rs
  level_room =
      let l =
      level_trie_lem 2 209 τ (map slot_key rs) (all_keys {P = Wide 2} rs key_wide) (all_keys {P = λ x. total x.strings ≤ 209} rs key_total)
      (all_keys {P = WholeReference} rs key_twenty) in
      omega (arith, (figures l.0).0, length-map rs slot_key)

  -- at the root
  pub root_is : 0 < length rs → trie_bytes τ root 0 0 (map slot_key rs) ≡ encode (level_of 2 τ (map slot_key rs))
  root_is h = go rs h
    where
      go : (rs : List (List ℕ)) → 0 < length rs → trie_bytes τ root 0 0 (map slot_key rs) ≡ encode (level_of 2 τ (map slot_key rs))
      go [] h = absurd (omega arith)
      go (r ∷ rs) h = root_bytes τ (slot_key r) (map slot_key rs) (shared_two (r ∷ rs) h)

  pub level_ready : (room : ℕ) → 0 < length rs → trie_room * length rs ≤ room → trie_room * length rs < four_byte_limit → Ready room rs τ root 0 0
  level_ready room h f m =
      record {
        some = h;
        two = tt;
        short = short;
        value_known = omega arith;
        path_known = omega arith;
        fits = rw (root_is h) (omega (arith, level_room));
        small = rw (root_is h) (omega (arith, level_room));
      }

-- A LEVEL FITS its room
pub level_fits : (s : List ℕ) (slots n τ : ℕ) → short_paths n (drop slots s) ≡ true → slots + n * slot_size ≤ length s
    → length (encode (level_of 2 τ (keys_of n (drop slots s)))) ≤ trie_room * n
unfolding keys_of short_paths
level_fits s slots n τ short room =
    let t = drop slots s in
    let many = length_records slot_size n t in
    let inside : n * slot_size ≤ length t = rw length-drop (omega arith) in
    let l = level_room (records slot_size n t) τ (λ k h. slot_whole n t inside k (omega arith)) short in
    omega arith

-- the slots of a level, where they are lent
module _ (s : List ℕ) (slots scratch n τ : ℕ) (short : short_paths n (drop slots s) ≡ true) (apart : slots + n * slot_size ≤ scratch) (inside : scratch + n * slot_size ≤ length s)
    {front set : List ℕ} (f : front ≡ take scratch s) (e : set ≡ drop slots front) where
  rs : List (List ℕ)
  rs = records slot_size n (drop slots s)

  many : length rs ≡ n
  unfolding rs
  many = length_records slot_size n (drop slots s)

  set_is : set ≡ take (scratch - slots) (drop slots s)
  set_is = e ∙ ap (drop slots) f ∙ drop_take slots scratch (scratch - slots) s (omega arith)

  pub set_long : length set ≡ scratch - slots
  set_long = ap length set_is ∙ length-take-le (scratch - slots) (drop slots s) (rw length-drop (omega arith))

  lent : slots_of (take (n * slot_size) set) ≡ rs
  unfolding rs
  lent =
      table_whole slot_size (take (n * slot_size) set) n (omega arith) (length-take-le (n * slot_size) set (omega (arith, set_long)))
      ∙ slots_part n (n * slot_size) set (omega arith) ∙ ap (records slot_size n) set_is ∙ slots_part n (scratch - slots) (drop slots s) (omega arith)

  whole : (k : ℕ) → k < length rs → length (nth rs k) ≡ slot_size
  unfolding rs
  whole k h = slot_whole n (drop slots s) (rw length-drop (omega arith)) k (omega (arith, many))

  are_short : all short_path rs ≡ true
  unfolding rs short_paths
  are_short = short

  pub root_ready : (room : ℕ) → 0 < n → trie_room * n ≤ room → trie_room * n < four_byte_limit → Ready room (slots_of (take (n * slot_size) set)) τ root 0 0
  root_ready room h r m = rw lent (level_ready rs τ whole are_short room (omega (arith, many)) (omega (arith, many)) (omega (arith, many)))

  pub root_writes : 0 < n → trie_bytes τ root 0 0 (map slot_key (slots_of (take (n * slot_size) set))) ≡ encode (level_of 2 τ (keys_of n (drop slots s)))
  unfolding rs keys_of
  root_writes h = rw lent (root_is rs τ whole are_short (omega (arith, many)))

-- no keys, no bytes
empty : (τ : ℕ) (u : List ℕ) → encode (level_of 2 τ (keys_of 0 u)) ≡ []
unfolding keys_of records level_of encode
empty τ u = refl

pub level_none : (s : List ℕ) (out slots scratch n τ : ℕ) → n ≡ 0 → Built s out slots scratch n (encode (level_of 2 τ (keys_of n (drop slots s)))) s × (0 ≡ length (encode (level_of 2 τ (keys_of n (drop slots s)))))
level_none s out slots scratch n τ e =
    let z : encode (level_of 2 τ (keys_of n (drop slots s))) ≡ [] = rw e (empty τ (drop slots s)) in
    rw z (record { long = refl; wrote = refl; kept = λ i x y w. refl }, refl)
