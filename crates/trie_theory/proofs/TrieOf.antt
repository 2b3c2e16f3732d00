-- LEVELS AND SMALL TRIES ARE TRIES OF THEIR KEYS, for any number of dimensions, and of entries: at most 245 bytes for each,
-- and at most 210 nodes one below the other.
use Prim.Native.Nat.{ℕ, ◌+◌, ◌*◌, ◌≤◌}
use mathlib.Core.Path.{◌≡◌, sym, ap, ◌∙◌}
use mathlib.Core.Bool.{Bool, true, cond}
use mathlib.Core.List.{List, []}
use native.Mathlib.Omega.{arith}
use lib.ListN.{length}
use lib.Dec.{eqb, leb}
use borrow.Author.Tests.{eqb-true, eq-eqb, leb-true, le-leb}
use Rattle.trie_theory.specs.Forest.{Key, Forest, keys}
use Rattle.buffer.specs.Sizes.{reference_size}
use Rattle.buffer.specs.Lists.{All, pick, sum, count}
use Rattle.trie_theory.specs.Strings.{total}
use Rattle.trie_theory.specs.Dimensions.{root}
use Rattle.trie_theory.specs.Level.{level_of}
use Rattle.trie_theory.specs.SmallTrie.{small_trie}
use Rattle.trie_theory.specs.Lookup.{same_key, among}
use Rattle.trie_theory.specs.Sound.{Wide, Sound, Ascending, EmptySuffixes}
use Rattle.trie_theory.specs.Encode.{encode}
use Rattle.trie_theory.specs.Size.{height}
use Rattle.trie_theory.specs.Entries.{complete, Stops, dims, key_limit, OfEntry}
use Rattle.trie_theory.specs.TrieOf.{TrieOf}
use Rattle.buffer.proofs.Lists.{all_imp}
use Rattle.buffer.proofs.Sums.{count_sum, equal_length, equal_picked, equal_all, equal_any}
use Rattle.trie_theory.proofs.Search.{found_all}
use Rattle.trie_theory.proofs.SoundLaws.{nodes_known, height_bound, cost_bound}
use Rattle.trie_theory.proofs.Lookup.{member_among}
use Rattle.trie_theory.specs.Encode.{WholeReference}
use Rattle.trie_theory.proofs.Encode.{sound_regular, length_encode}
use Rattle.trie_theory.proofs.LevelKept.{level_sum}
use Rattle.trie_theory.proofs.LevelSound.{level_well}
use Rattle.trie_theory.proofs.Complete.{dims_stop, entry_total, entry_wide}
use Rattle.trie_theory.proofs.SmallKept.{small_sum}
use Rattle.trie_theory.proofs.SmallSuffixes.{small_small}

-- equal sums of the test are equal counts
counted : (p : Key → Bool) (xs ys : List Key) → sum (λ x. cond (p x) 1 0) xs ≡ sum (λ x. cond (p x) 1 0) ys → count p xs ≡ count p ys
counted p xs ys e = count_sum p xs ∙ e ∙ sym (count_sum p ys)

-- A SOUND TRIE with the keys xs, each as often
pub sound_trie : (n m : ℕ) (xs : List Key) (t : Forest) → Sound n root t → ((h : Key → ℕ) → sum h (keys [] t) ≡ sum h xs)
    → All (λ x. total x.strings ≤ m) xs → All WholeReference xs → TrieOf n m xs t
unfolding among
sound_trie n m xs t s equal short named =
    let short-keys : All (λ x. total x.strings ≤ m) (keys [] t) =
    equal_all (keys [] t) xs equal (λ x. leb (total x.strings) m) (λ x. total x.strings ≤ m)
    (λ x e. leb-true (total x.strings) m e) (λ x l. le-leb (total x.strings) m l) short in
    let named-keys : All WholeReference (keys [] t) =
    equal_all (keys [] t) xs equal (λ x. eqb (length x.reference) reference_size) WholeReference
    (λ x e. eqb-true (length x.reference) reference_size e) (λ x e. eq-eqb (length x.reference) reference_size e) named in
    let many = equal_length (keys [] t) xs equal in
    record {
      sound = s;
      kept = λ p. counted p (keys [] t) xs (equal (λ x. cond (p x) 1 0));
      lookup = λ x. member_among n root t x s ∙ equal_any (keys [] t) xs equal (same_key x);
      search = λ reach matching sees p.
          ap (count p) (found_all reach matching sees root [] t)
          ∙ counted p (pick matching (keys [] t)) (pick matching xs) (equal_picked (keys [] t) xs equal matching (λ x. cond (p x) 1 0));
      few = omega (arith, nodes_known n root [] t s);
      high = height_bound m n t s short-keys;
      size =
          rw many at (bytes (length_encode n t (sound_regular n root [] t s named-keys)) (cost_bound (5 + n) (reference_size + n) n m t s short-keys));
    }
  where
    bytes : {c : ℕ} → length (encode t) ≡ c → c ≤ (5 + n + (5 + n) + (reference_size + n) + m) * length (keys [] t)
        → length (encode t) ≤ (10 + reference_size + 3 * n + m) * length (keys [] t)
    bytes e l =
        let same : 5 + n + (5 + n) + (reference_size + n) + m ≡ 10 + reference_size + 3 * n + m = omega arith in
        rw (e, ← same) l

-- A LEVEL, whose siblings ascend
pub level_trie_lem : (n m τ : ℕ) (xs : List Key) → All (Wide n) xs → All (λ x. total x.strings ≤ m) xs → All WholeReference xs
    → TrieOf n m xs (level_of n τ xs) × Ascending root (level_of n τ xs)
level_trie_lem n m τ xs wide short named =
    let w = level_well n τ xs wide in
    (sound_trie n m xs (level_of n τ xs) w.0 (λ h. level_sum n τ h xs) short named, w.1)

-- A SMALL TRIE, whose siblings ascend and which has one path and value per leaf
pub small_trie_lem : (cs : List (List ℕ → Bool)) → All Stops cs → (m : ℕ) (xs : List Key)
    → All (λ x. complete cs x.strings ≡ true) xs → All (λ x. total x.strings ≤ m) xs → All WholeReference xs
    → TrieOf (length cs) m xs (small_trie xs) × Ascending root (small_trie xs) × EmptySuffixes (small_trie xs)
small_trie_lem cs stop m xs whole short named =
    let s = small_small cs stop whole in
    (sound_trie (length cs) m xs (small_trie xs) s.0.sound (λ h. small_sum h xs) short named, s.1, s.0.empty_suffixes)

-- OF ENTRIES
module _ (xs : List Key) (entries : All OfEntry xs) where
  pub level_entries : (τ : ℕ) → TrieOf 2 key_limit xs (level_of 2 τ xs) × Ascending root (level_of 2 τ xs)
  level_entries τ = level_trie_lem 2 key_limit τ xs (all_imp entry_wide entries) (all_imp entry_total entries) (all_imp (λ x e. e.named) entries)

  pub small_entries : TrieOf 2 key_limit xs (small_trie xs) × Ascending root (small_trie xs) × EmptySuffixes (small_trie xs)
  unfolding dims
  small_entries =
      small_trie_lem dims dims_stop key_limit xs (all_imp (λ x e. e.whole) entries) (all_imp entry_total entries)
      (all_imp (λ x e. e.named) entries)

-- in figures: at most 245 bytes for each, and 210 nodes one below the other
pub figures : {xs : List Key} {t : Forest} → TrieOf 2 key_limit xs t → (length (encode t) ≤ 245 * length xs) × (height t ≤ 210)
figures r = (r.size, r.high)
