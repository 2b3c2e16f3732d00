-- What a search finds in the tries of a store, one trie after another. Assumes nothing.
use mathlib.Core.Path.{◌≡◌, refl, sym, ap, ◌∙◌, subst}
use Prim.Native.Nat.{ℕ, zero, suc, ◌+◌, ◌*◌, ◌^◌, ◌≤◌}
use mathlib.Core.List.{List, [], ◌∷◌, ◌++◌, map}
use native.Mathlib.Omega.{arith}
use native.Mathlib.Numerals.{add-one}
use lib.ListN.{length, take, length-append, length-map}
use lib.Seq.{take-nil}
use Rattle.buffer.specs.Lists.{All, nil, sum, flat}
use Rattle.buffer.specs.Splice.{splice}
use Rattle.buffer.proofs.Lists.{all_imp, all_append, all_pick, all_test, flat_map_next, map_flat_map, tested_append}
use Rattle.buffer.proofs.Splice.{splice_nil}
use Rattle.buffer.proofs.Sums.{sum_append}
use Rattle.rows.specs.Sizes.{row_size}
use Rattle.trie_theory.specs.Forest.{Key, Forest}
use Rattle.trie_theory.specs.Dimensions.{root}
use Rattle.trie_theory.specs.Entries as Key
use Rattle.trie_theory.specs.Search.{found, nodes_entered}
use Rattle.trie_theory.specs.Encode.{encode}
use Rattle.entries.specs.Query.{Query, reaches, wants}
use Rattle.entries.proofs.Found.{found_keys}
use Rattle.trie_read.proofs.Stretch.{length_part}
use Rattle.gather.specs.KeySlots.{has_slot}
use Rattle.gather.specs.Walks.{joined, written}
use Rattle.gather.proofs.Putting.{joined_none, written_behind}
use Rattle.search.specs.Steps.{key_row}
use Rattle.gather.specs.declared.output.Output.{Output}
use Rattle.search.specs.Searches.{TrieFound, TrieSearched}
use Rattle.search.proofs.Finding.{length_row}
use Rattle.book.specs.Front.{Front, need, need_limit}
use Rattle.book.specs.Tries.{Tries, every}
use Rattle.book.specs.Searching.{nodes_of}
use Rattle.book.specs.FromTries.{key_entry, found_of, found_in}
use Rattle.book.specs.Image.{Holds}
use Rattle.book.specs.Good.{Good, GoodTries}
use Rattle.book.proofs.Keys.{entry_valued}
use Rattle.store.specs.Parts.{numbered, up_to, TrieIs}
use Rattle.store.proofs.Powers.{power_most, product_most}
use Rattle.store.proofs.Places.{up_to_next, good_regular, good_numbered}
use Rattle.store_search.specs.Listing.{found_up_to, nodes_up_to, TriesSearched}
use Rattle.store_search.proofs.Keys.{rowed, allowed_paths}

-- ---- one trie after another

module _ (q : Query) where
  abbrev of_trie : Forest → List Key
  of_trie = found (reaches q) (wants q) root []

  abbrev nodes_in_lem : Forest → ℕ
  nodes_in_lem = nodes_entered (reaches q) root []

  found_suc : (k : ℕ) (t : Tries) → found_up_to q (suc k) t ≡ found_up_to q k t ++ of_trie (numbered t k)
  unfolding found_up_to
  found_suc k t = ap (λ (fs : List Forest). flat (map of_trie fs)) (up_to_next k t) ∙ flat_map_next of_trie (up_to k t) (numbered t k)

  found_next : (k : ℕ) (t : Tries) → found_up_to q (k + 1) t ≡ found_up_to q k t ++ of_trie (numbered t k)
  found_next k t = ap (λ (n : ℕ). found_up_to q n t) (add-one k) ∙ found_suc k t

  nodes_suc : (k : ℕ) (t : Tries) → nodes_up_to q (suc k) t ≡ nodes_up_to q k t + nodes_in_lem (numbered t k)
  unfolding nodes_up_to sum
  nodes_suc k t = omega (arith, ap (sum nodes_in_lem) (up_to_next k t), sum_append nodes_in_lem (up_to k t) (numbered t k ∷ []))

  nodes_next : (k : ℕ) (t : Tries) → nodes_up_to q (k + 1) t ≡ nodes_up_to q k t + nodes_in_lem (numbered t k)
  nodes_next k t = ap (λ (n : ℕ). nodes_up_to q n t) (add-one k) ∙ nodes_suc k t

  -- what is found in a good trie are keys of entries
  found_entries : (room : ℕ) (f : Forest) → Good room f → All Key.OfEntry (of_trie f)
  found_entries room f g =
      subst (All Key.OfEntry) (sym (found_keys q root [] f (all_imp entry_valued g.entries))) (all_imp (λ x h. h.0) (all_pick (wants q) g.entries))

  entries_found : (f : Front) (t : Tries) → GoodTries f t → (k : ℕ) → k ≤ f.L + 1 → All Key.OfEntry (found_up_to q k t)
  unfolding found_up_to flat
  entries_found f t g zero h = nil
  entries_found f t g (suc k) h =
      subst (All Key.OfEntry) (sym (found_suc k t)) (all_append (entries_found f t g k (omega arith)) (found_entries _ (numbered t k) (good_numbered f t g k (omega arith))))

  -- those of all tries
  found_all : (l : ℕ) (t : Tries) → map key_entry (found_up_to q (l + 1) t) ≡ found_in q l t
  found_all l t = ap (λ (n : ℕ). map key_entry (found_up_to q n t)) (add-one l) ∙ (unfold found_up_to found_in found_of in map_flat_map key_entry of_trie (every l t))

  nodes_all : (l : ℕ) (t : Tries) → nodes_up_to q (l + 1) t ≡ nodes_of q l t
  nodes_all l t = ap (λ (n : ℕ). nodes_up_to q n t) (add-one l) ∙ (unfold nodes_up_to nodes_of in refl)

  -- the bytes of a good trie
  trie_found : (room : ℕ) (f : Forest) (bs : List ℕ) → Good room f → bs ≡ encode f → TrieFound q bs (of_trie f) (nodes_in_lem f)
  trie_found room f bs g e =
      record {
        tries = f;
        regular = good_regular room f g;
        sound = g.sound;
        high = g.high;
        slots = all_test has_slot (all_imp (λ x h. (rowed x h).slot) g.entries);
        paths = allowed_paths f g.entries g.allowed;
        rises = g.rises;
        bytes = e;
        is = refl;
        entered = refl;
      }

-- ---- the loop

pub need_most : (m l : ℕ) → m ≤ 4096 → l ≤ 8 → need m l ≤ need_limit
unfolding need
need_most m l h k = omega (arith, product_most m (2 ^ l) h (power_most l k))

-- the bytes of a trie are few
pub trie_few : {store t : List ℕ} {m l k : ℕ} → TrieIs store m l k t → m ≤ 4096 → l ≤ 8 → need m l ≤ length store → length t ≤ need_limit
trie_few {store} {t} {m} {l} {k} p h i n =
    omega (arith, ap length p.is, length_part store p.from p.to (omega (arith, p.part_of.within)), p.part_of.within, need_most m l h i)

none_written : (s : List ℕ) (room : ℕ) → s ≡ splice s 0 (joined key_row (take room []))
none_written s room = sym (rw (take-nil {A = Key} room, joined_none key_row) (splice_nil s 0))

pub searched_none : (q : Query) (store : List ℕ) (m l room : ℕ) (s : List ℕ) → TriesSearched q store m l 0 room s s 0 0
unfolding found_up_to nodes_up_to flat sum
searched_none q store m l room s =
    record {
      put = [];
      fit = refl;
      rows_are = refl;
      few_rows = omega arith;
      few_nodes = omega arith;
      long = refl;
      writes = none_written s room;
      are = λ f t a b g h. (refl, refl);
    }

pub searched_next : {q : Query} {store bs : List ℕ} {m l k room : ℕ} {s : List ℕ} {o o' : Output} {d d' : ℕ} → TriesSearched q store m l k room s o.bytes.now o.rows d
    → o.room ≡ room → TrieIs store m l k bs → TrieSearched q bs o o' d' → k ≤ l → length bs ≤ need_limit → room * row_size ≤ length s
    → TriesSearched q store m l (k + 1) room s o'.bytes.now o'.rows (d + d')
searched_next {q} {store} {bs} {m} {l} {k} {room} {s} {o} {o'} {d} {d'} a full p b h few fits =
    record {
      put = a.put ++ b.put;
      fit = tested_append has_slot a.put b.put a.fit b.fit;
      rows_are = omega (arith, a.rows_are, b.rows_are, length-append a.put b.put);
      few_rows = omega (arith, a.few_rows, b.few_rows);
      few_nodes = omega (arith, a.few_nodes, b.few_nodes);
      long = b.long ∙ a.long;
      writes =
          rw full at b.writes
          ∙ ap (λ (n : ℕ). written key_row 0 room n b.put o.bytes.now) a.rows_are
          ∙ written_behind key_row row_size length_row 0 room b.put a.put o.bytes.now s b.fit a.fit (omega (arith, a.long)) (sym a.long) a.writes;
      are = λ f t em el g holds.
          let x = a.are f t em el g holds in
          let y = b.are _ _ (trie_found q _ (numbered t k) bs (good_numbered f t g k (omega arith)) (p.is ∙ p.part_of.holds f t em el g holds)) in (
            (λ i. x.0 i ++ y.0 i) ∙ sym (found_next q k t),
            omega (arith, x.1, y.1, nodes_next q k t),
          );
    }

-- ---- all tries

-- the keys put are those of the entries found
pub record Finds (q : Query) (l : ℕ) (t : Tries) (put : List Key) (r d : ℕ) : Type 0 where
  pub entries : All Key.OfEntry put
  pub are : map key_entry put ≡ found_in q l t
  pub rows : r ≡ length (found_in q l t)
  pub nodes : d ≡ nodes_of q l t

pub finds : {q : Query} {store : List ℕ} {m l room : ℕ} {s s' : List ℕ} {r d : ℕ} (a : TriesSearched q store m l (l + 1) room s s' r d) (f : Front) (t : Tries)
    → f.M ≡ m → f.L ≡ l → GoodTries f t → Holds store f t → Finds q l t a.put r d
finds {q} {store} {m} {l} a f t em el g h =
    let x = a.are f t em el g h in
    let are : map key_entry a.put ≡ found_in q l t = ap (map key_entry) x.0 ∙ found_all q l t in
    record {
      entries = subst (All Key.OfEntry) (sym x.0) (entries_found q f t g (l + 1) (omega arith));
      are = are;
      rows = a.rows_are ∙ sym (length-map a.put key_entry) ∙ ap length are;
      nodes = x.1 ∙ nodes_all q l t;
    }
