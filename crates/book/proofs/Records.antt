-- Records of a level read back: 860 bytes each, and made from the level's trie alone.
use Prim.Native.Nat.{ℕ, ◌+◌, ◌*◌, ◌-◌, ◌≤◌, ◌<◌}
use mathlib.Core.Path.{◌≡◌, refl, sym, ap, ◌∙◌, subst}
use mathlib.Core.Bool.{true, not}
use mathlib.Core.List.{List, [], ◌∷◌, map}
use native.Mathlib.Omega.{arith}
use lib.ListN.{length, replicate, length-append, length-replicate}
use borrow.Author.Tests.{lt-ltb}
use Rattle.buffer.specs.Lists.{all, flat}
use Rattle.buffer.proofs.Lists.{all_tested, all_test, In, at_head, later, any_in}
use Rattle.buffer.proofs.Sums.{count_none, none_count}
use Rattle.rows.specs.Sizes.{record_size, node_limit}
use Rattle.rows.specs.Entry.{Entry, row, same_entry, fits_row}
use Rattle.rows.specs.Order.{entry_order}
use Rattle.rows.specs.Sorted.{sorted}
use Rattle.rows.proofs.Rows.{length_row, entries_decided, same_entry_lem}
use Rattle.trie_theory.specs.Walk.{Step, walk, route}
use Rattle.trie_theory.specs.Dimensions.{root}
use Rattle.trie_theory.proofs.LevelWalk.{level_walk}
use Rattle.trie_theory.proofs.Walk.{walk_height}
use Rattle.trie_theory.proofs.TrieOf.{figures}
use Rattle.entries.specs.Keys.{entry_key}
use Rattle.book.specs.Digits.{level}
use Rattle.book.specs.Book.{Book, Sound, formed, has}
use Rattle.book.specs.Tries.{dimensions, level_trie, tries}
use Rattle.book.specs.FromTries.{entries_of}
use Rattle.book.specs.Records.{step_bytes, walk_bytes, record_of, level_read, records}
use Rattle.book.proofs.Keys.{fits_rows}
use Rattle.book.proofs.Image.{level_formed, level_trie_of}
use Rattle.book.proofs.Listed.{has_sorted}
use Rattle.book.proofs.OverTries.{level_for, keys_count}

length_steps : (steps : List Step) → length (flat (map step_bytes steps)) ≡ 3 * length steps
unfolding flat step_bytes
length_steps [] = refl
length_steps (s ∷ steps) = omega (arith, length_steps steps)

pub length_walk : (steps : List Step) → length steps ≤ node_limit → length (walk_bytes steps) ≡ 1 + 3 * node_limit
unfolding walk_bytes
length_walk steps h =
    let zeros : List ℕ = replicate (3 * (node_limit - length steps)) 0 in
    omega (arith, length-append (flat (map step_bytes steps)) zeros, length_steps steps, length-replicate {A = ℕ} (3 * (node_limit - length steps)) 0)

-- the level of formed entries: a record has 860 bytes
pub length_record : (τ : ℕ) (es : List Entry) → all formed es ≡ true → (e : Entry) → fits_row e ≡ true → length (record_of (level_trie τ es) e) ≡ record_size
unfolding record_of
length_record τ es h e f =
    let t = level_trie τ es in
    let steps = walk [] t (entry_key e) in
    let few : length steps ≤ node_limit = omega (arith, walk_height [] t (entry_key e), (figures (level_trie_of es h τ)).1) in
    omega (arith, length-append (row e) (walk_bytes steps), length_row e f, length_walk steps few)

-- the nodes of an entry are its partitioning sequence (Definition 7)
pub record_nodes : (τ : ℕ) (es : List Entry) (e : Entry) → has es e ≡ true
    → walk [] (level_trie τ es) (entry_key e) ≡ route dimensions τ root (map entry_key (sorted entry_order es)) (entry_key e)
unfolding level_trie
record_nodes τ es e h =
    level_walk dimensions τ (map entry_key (sorted entry_order es)) (entry_key e) (in_map (any_in (same_entry e) (sorted entry_order es) (has_sorted es e ∙ h)))
  where
    mapped : {x : Entry} {xs : List Entry} → In x xs → In (entry_key x) (map entry_key xs)
    mapped at_head = at_head
    mapped (later i) = later (mapped i)

    in_map : {xs : List Entry} → (x : Entry) × In x xs × (same_entry e x ≡ true) → In (entry_key e) (map entry_key xs)
    in_map {xs} d = subst (λ (x : Entry). In (entry_key x) (map entry_key xs)) (sym (same_entry_lem.equal e d.0 d.2)) (mapped d.1)

-- READ FROM THE TRIE: the entries of its keys, in row sequence, each with its nodes there
pub records_read : (b : Book) → Sound b → (i : ℕ) → i < b.L
    → records i b ≡ map (record_of ((tries b).level i)) (sorted entry_order (entries_of ((tries b).level i)))
unfolding records level_read tries
records_read b s i h =
    let es = level b.M i b.entries in
    let xs = entries_of ((tries b).level i) in
    let r = level_for b s i in
    let f = fits_rows es (level_formed b.M i b.entries s.formed) in
    rw (lt-ltb i b.L h)
    (ap (map (record_of (level_trie b.τ es)))
    (entries_decided es xs f (all_test fits_row (count_none fits_row xs (keys_count r (λ e. not (fits_row e)) ∙ none_count fits_row (all_tested fits_row es f)))) (λ e. sym (keys_count r (same_entry e)))))
