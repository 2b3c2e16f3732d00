-- The tries of a book are good.
use Prim.Native.Nat.{ℕ}
use mathlib.Core.Path.{◌≡◌}
use mathlib.Core.Bool.{true}
use mathlib.Core.List.{List, [], ◌∷◌, map}
use Rattle.buffer.specs.Lists.{All, nil, all}
use Rattle.buffer.proofs.Digits.{length_bytes_of, number_bytes_of}
use Rattle.buffer.proofs.Lists.{all_map, all_tested}
use Rattle.buffer.proofs.Tests.{and_left, and_right}
use Rattle.rows.specs.Entry.{Entry}
use Rattle.rows.specs.Sizes.{value_size}
use Rattle.rows.specs.Order.{entry_order}
use Rattle.rows.specs.Sorted.{sorted, ascending}
use Rattle.rows.proofs.Sorted.{all_sorted, ascending_sorted}
use Rattle.rows.proofs.Rows.{entry_order_lem, value_order}
use Rattle.trie_theory.specs.Dimensions.{root}
use Rattle.trie_theory.specs.Sound.{Ascending, EmptySuffixes, Rising, LeavesRise}
use Rattle.trie_theory.specs.SmallTrie.{small_trie}
use Rattle.trie_theory.proofs.TrieOf.{level_entries, small_entries, figures}
use Rattle.trie_theory.proofs.Rising.{ValueOf, rising_front, level_rises, empty_rises}
use Rattle.entries.specs.Keys.{entry_key}
use Rattle.book.specs.Digits.{level, small}
use Rattle.book.specs.Book.{formed}
use Rattle.book.specs.Tries.{dimensions, level_trie, tries}
use Rattle.book.specs.Good.{TriesGood}
use Rattle.book.proofs.Keys.{as_formed, keys_entries}
use Rattle.book.proofs.Image.{level_formed, small_formed, small_trie_of, level_trie_of, image_fits}
use Rattle.book.proofs.OverTries.{small_for, level_for, allowed_in}

-- in row sequence the keys' values do not descend
keys_rise : (es : List Entry) → all formed es ≡ true → ascending entry_order es ≡ true → Rising (map entry_key es)
unfolding ascending entry_key Rising
keys_rise [] h o = tt
keys_rise (a ∷ []) h o = (nil, tt)
keys_rise (a ∷ b ∷ es) h o =
    let rest = all formed (b ∷ es) in
    let later = ascending entry_order (b ∷ es) in
    rising_front (entry_key a) (entry_key b) (map entry_key es)
    (rw (number_bytes_of 7 a.value, number_bytes_of 7 b.value) (value_order a b (as_formed a (and_left (formed a) rest h)).value (and_left (entry_order a b) later o)))
    (keys_rise (b ∷ es) (and_right (formed a) rest h) (and_right (entry_order a b) later o))

module _ (es : List Entry) (h : all formed es ≡ true) where
  small_shape : Ascending root (small_trie (map entry_key es)) × EmptySuffixes (small_trie (map entry_key es))
  small_shape = let r = small_entries (map entry_key es) (keys_entries es h) in (r.1, r.2)

  level_shape : (τ : ℕ) → Ascending root (level_trie τ es) × LeavesRise (level_trie τ es)
  unfolding level_trie entry_key
  level_shape τ =
      let ds = sorted entry_order es in
      let f = all_sorted entry_order formed es h in
      let long : All (ValueOf value_size) (map entry_key ds) = all_map entry_key (λ e t. length_bytes_of value_size e.value) (all_tested formed ds f) in
      let rising = keys_rise ds f (ascending_sorted entry_order _ entry_order_lem es) in
      ((level_entries (map entry_key ds) (keys_entries ds f) τ).1, level_rises value_size dimensions τ (map entry_key ds) rising long)

pub tries_good : TriesGood
unfolding tries
tries_good b s =
    let es = small b.M b.entries in
    let f = small_formed b.M b.entries s.formed in
    let g = small_for b s in
    let shape = small_shape es f in
    let fit = image_fits b s in
    record {
      small = record {
        sound = g.sound;
        ascending = shape.0;
        rises = empty_rises (small_trie (map entry_key es)) shape.1;
        entries = g.entries;
        allowed = allowed_in g f;
        high = (figures (small_trie_of es f)).1;
        fits = fit.small;
      };
      empty_suffixes = shape.1;
      levels = λ i l.
          (let ds = level b.M i b.entries in
          let k = level_formed b.M i b.entries s.formed in
          let r = level_for b s i in
          let shape = level_shape ds k b.τ in
          record {
            sound = r.sound;
            ascending = shape.0;
            rises = shape.1;
            entries = r.entries;
            allowed = allowed_in r k;
            high = (figures (level_trie_of ds k b.τ)).1;
            fits = fit.levels i l;
          });
    }
