-- From the tries that a store holds to the book: what they have, what a search finds in them, and what is looked up in them. A level forgets
-- the sequence of its entries, so each law counts.
use Prim.Native.Nat.{ℕ, zero, suc, ◌+◌}
use mathlib.Core.Path.{◌≡◌, refl, sym, ap, ap₂, ◌∙◌, subst}
use mathlib.Core.Logic.{◌↔◌}
use mathlib.Core.Bool.{Bool, true, false, not, ◌&&◌, ◌||◌}
use mathlib.Core.List.{List, [], ◌∷◌, ◌++◌, map}
use native.Mathlib.Omega.{arith}
use Rattle.trie_theory.specs.Encode.{WholeReference}
use Rattle.buffer.specs.Lists.{All, nil, cons, all, any, pick, sum, count}
use Rattle.buffer.proofs.Tests.{and_both, bool_ext}
use Rattle.buffer.proofs.Lists.{all_imp, all_tested, all_test, any_append, bytes_refl, strings_refl, all_append, all_every, all_pick, pick_append, all_flat_map}
use Rattle.buffer.proofs.Sums.{sum_append, sum_equal, count_append, count_map, count_flat, count_agree, count_picked, count_none, none_count}
use Rattle.rows.specs.Entry.{Entry, same_entry, fits_row}
use Rattle.rows.specs.Order.{entry_order}
use Rattle.rows.specs.Sorted.{sorted}
use Rattle.rows.proofs.Sorted.{count_sorted, all_sorted}
use Rattle.rows.proofs.Rows.{same_entry_lem, entries_decided}
use Rattle.trie_theory.specs.Forest.{Key, Forest, keys}
use Rattle.trie_theory.specs.Dimensions.{root}
use Rattle.trie_theory.specs.Lookup.{same_key, among, member}
use Rattle.trie_theory.proofs.Lookup.{same_key_true}
use Rattle.trie_theory.specs.Search.{nodes_in, admitted, nodes_entered}
use Rattle.trie_theory.specs.TrieOf.{TrieOf}
use Rattle.trie_theory.specs.Entries as Dimensions
use Rattle.trie_theory.specs.Sound as Trie
use Rattle.entries.specs.Keys.{entry_key}
use Rattle.entries.specs.Query.{Query, matches_entry, reaches, wants}
use Rattle.entries.specs.Branch.{ToEnter}
use Rattle.entries.proofs.Branch.{wants_entry}
use Rattle.entries.proofs.Found.{Valued, found_keys}
use Rattle.entries.proofs.Entered.{entered_exactly, entered_decided}
use Rattle.book.specs.Digits.{level, small}
use Rattle.book.specs.Book.{Book, Sound, has, formed}
use Rattle.book.specs.Tries.{every, tries}
use Rattle.book.specs.Searching.{matching, nodes_of, nodes}
use Rattle.book.specs.InWords.{nodes_of_tries}
use Rattle.book.specs.Overflow.{from_highest}
use Rattle.book.specs.FromTries.{key_entry, entries_of, found_of, entries_in, found_in, has_in}
use Rattle.book.proofs.Digits.{levels_whole}
use Rattle.book.proofs.Keys.{as_formed, keys_entries, fits_rows, key_entry_lem, is_entry, entry_tested, tested_entry, entry_valued}
use Rattle.book.proofs.Image.{level_formed, small_formed, small_trie_of, level_trie_of}
use Rattle.book.proofs.Listed.{has_sorted}

-- ---- one trie, of the keys of formed entries

same_key_entry : (e d : Entry) → same_key (entry_key e) (entry_key d) ≡ same_entry e d
same_key_entry e d = bool_ext (same_key (entry_key e) (entry_key d)) (same_entry e d) forth back
  where
    forth : same_key (entry_key e) (entry_key d) ≡ true → same_entry e d ≡ true
    forth h = subst (λ (x : Entry). same_entry e x ≡ true) (sym (key_entry_lem e) ∙ ap key_entry (same_key_true (entry_key e) (entry_key d) h) ∙ key_entry_lem d) (same_entry_lem.self e)

    back : same_entry e d ≡ true → same_key (entry_key e) (entry_key d) ≡ true
    back h = subst (λ (x : Entry). same_key (entry_key e) (entry_key x) ≡ true) (same_entry_lem.equal e d h) (unfold same_key in and_both (strings_refl (entry_key e).strings) (bytes_refl (entry_key e).reference))

among_keys : (e : Entry) (es : List Entry) → among (entry_key e) (map entry_key es) ≡ has es e
unfolding among any
among_keys e [] = refl
among_keys e (d ∷ es) = ap₂ ◌||◌ (same_key_entry e d) (among_keys e es)

-- a trie of the entries es, in whatever sequence
pub record TrieFor (es : List Entry) (t : Forest) : Type 0 where
  pub kept : (p : Key → Bool) → count p (keys [] t) ≡ count (λ e. p (entry_key e)) es
  pub lookup : (e : Entry) → member root t (entry_key e) ≡ has es e
  pub sound : Trie.Sound 2 root t
  pub entries : All Dimensions.OfEntry (keys [] t)

trie_for : (es xs : List Entry) (t : Forest) → all formed xs ≡ true → ((p : Entry → Bool) → count p xs ≡ count p es) → ((e : Entry) → has xs e ≡ has es e)
    → TrieOf 2 209 (map entry_key xs) t → TrieFor es t
trie_for es xs t f counts members r =
    record {
      kept = λ p. r.kept p ∙ count_map p entry_key xs ∙ counts (λ e. p (entry_key e));
      lookup = λ e. r.lookup (entry_key e) ∙ among_keys e xs ∙ members e;
      sound = r.sound;
      entries = all_imp tested_entry (count_none is_entry (keys [] t) (r.kept (λ x. not (is_entry x)) ∙ none_count is_entry (all_imp entry_tested (keys_entries xs f))));
    }

-- its keys have values of bytes, and references of 20
pub valued : {es : List Entry} {t : Forest} → TrieFor es t → All Valued (keys [] t)
valued r = all_imp entry_valued r.entries

pub named : {es : List Entry} {t : Forest} → TrieFor es t → All WholeReference (keys [] t)
named r = all_imp (λ x e. e.named) r.entries

pub small_for : (b : Book) → Sound b → TrieFor (small b.M b.entries) (tries b).small
unfolding tries
small_for b s =
    let es = small b.M b.entries in
    let f = small_formed b.M b.entries s.formed in
    trie_for es es (tries b).small f (λ p. refl) (λ e. refl) (small_trie_of es f)

pub level_for : (b : Book) → Sound b → (i : ℕ) → TrieFor (level b.M i b.entries) ((tries b).level i)
unfolding tries
level_for b s i =
    let es = level b.M i b.entries in
    let f = level_formed b.M i b.entries s.formed in
    trie_for es (sorted entry_order es) ((tries b).level i) (all_sorted entry_order formed es f) (λ p. count_sorted entry_order p es) (λ e. has_sorted es e) (level_trie_of es f b.τ)

-- the entries of its keys, and those that a search finds, by counts
pub keys_count : {es : List Entry} {t : Forest} → TrieFor es t → (p : Entry → Bool) → count p (entries_of t) ≡ count p es
unfolding entries_of
keys_count {es} {t} r p =
    count_map p key_entry (keys [] t) ∙ r.kept (λ x. p (key_entry x))
    ∙ count_agree (λ e. p (key_entry (entry_key e))) p (all_every es (λ e. ap p (key_entry_lem e)))

-- none but allowed ones
pub allowed_in : {es : List Entry} {t : Forest} → TrieFor es t → all formed es ≡ true → all formed (entries_of t) ≡ true
allowed_in {es} {t} r f = all_test formed (count_none formed (entries_of t) (keys_count r (λ e. not (formed e)) ∙ none_count formed (all_tested formed es f)))

pub found_count : {es : List Entry} {t : Forest} (q : Query) → TrieFor es t → all formed es ≡ true → (p : Entry → Bool)
    → count p (found_of q t) ≡ count p (pick (matches_entry q) es)
unfolding found_of
found_count {es} {t} q r f p =
    ap (λ (l : List Key). count p (map key_entry l)) (found_keys q root [] t (valued r))
    ∙ count_map p key_entry (pick (wants q) (keys [] t))
    ∙ count_picked (λ x. p (key_entry x)) (wants q) (keys [] t)
    ∙ r.kept (λ x. wants q x && p (key_entry x))
    ∙ count_agree (λ e. wants q (entry_key e) && p (key_entry (entry_key e))) (λ e. matches_entry q e && p e) (all_imp (λ e h. ap₂ ◌&&◌ (wants_entry q e (as_formed e h).path) (ap p (key_entry_lem e))) (all_tested formed es f))
    ∙ sym (count_picked p (matches_entry q) es)

-- ---- all tries

-- what adds up over entries, and is right of each trie, is right of all
module _ (b : Book) (h : Forest → ℕ) (g : List Entry → ℕ) (add : (xs ys : List Entry) → g (xs ++ ys) ≡ g xs + g ys)
    (on-small : h (tries b).small ≡ g (small b.M b.entries))
    (on-level : (i : ℕ) → h ((tries b).level i) ≡ g (level b.M i b.entries)) where
  pub sum_tries : (l : ℕ) → sum h (every l (tries b)) ≡ g (from_highest b.M l b.entries)
  unfolding sum every from_highest
  sum_tries zero = omega (arith, on-small)
  sum_tries (suc l) =
      omega (
        arith,
        sum_append h (every l (tries b)) ((tries b).level l ∷ []),
        sum_tries l,
        on-level l,
        add (level b.M l b.entries) (from_highest b.M l b.entries),
      )

module _ (b : Book) (s : Sound b) where
  whole : from_highest b.M b.L b.entries ≡ b.entries
  whole = levels_whole b.M b.L b.entries s.room

  -- the entries of all keys of the small trie and the levels below l, by counts
  pub kept_count : (l : ℕ) (p : Entry → Bool) → count p (entries_in l (tries b)) ≡ count p (from_highest b.M l b.entries)
  unfolding entries_in
  kept_count l p =
      count_flat p entries_of (every l (tries b))
      ∙ sum_tries b (λ t. count p (entries_of t)) (count p) (count_append p) (keys_count (small_for b s) p) (λ i. keys_count (level_for b s i) p) l

  -- .. and of those that a search finds
  found_counts : (q : Query) (p : Entry → Bool) → count p (found_in q b.L (tries b)) ≡ count p (pick (matches_entry q) b.entries)
  unfolding found_in
  found_counts q p =
      count_flat p (found_of q) (every b.L (tries b))
      ∙ sum_tries b (λ t. count p (found_of q t)) (λ es. count p (pick (matches_entry q) es))
      (λ xs ys. ap (count p) (pick_append (matches_entry q) xs ys) ∙ count_append p (pick (matches_entry q) xs) (pick (matches_entry q) ys))
      (found_count q (small_for b s) (small_formed b.M b.entries s.formed) p)
      (λ i. found_count q (level_for b s i) (level_formed b.M i b.entries s.formed) p) b.L
      ∙ ap (λ (es : List Entry). count p (pick (matches_entry q) es)) whole

  -- THE ROWS FOUND IN THE TRIES, SORTED, ARE THE BOOK'S
  pub rows_found : (q : Query) → sorted entry_order (found_in q b.L (tries b)) ≡ matching q b.entries
  unfolding matching
  rows_found q =
      let found = found_in q b.L (tries b) in
      entries_decided found (pick (matches_entry q) b.entries)
      (all_test fits_row (count_none fits_row found (found_counts q (λ e. not (fits_row e)) ∙ none_count fits_row picked)))
      (all_test fits_row picked) (λ e. found_counts q (same_entry e))
    where
      picked : All (λ e. fits_row e ≡ true) (pick (matches_entry q) b.entries)
      picked = all_imp (λ e h. h.0) (all_pick (matches_entry q) (all_tested fits_row b.entries (fits_rows b.entries s.formed)))

  -- WHAT IS LOOKED UP IN THE TRIES is what the book has
  looked_below : (e : Entry) (l : ℕ) → any (λ t. member root t (entry_key e)) (every l (tries b)) ≡ has (from_highest b.M l b.entries) e
  unfolding any every from_highest
  looked_below e zero = one (member root (tries b).small (entry_key e)) ∙ (small_for b s).lookup e
    where
      one : (x : Bool) → x || false ≡ x
      one true = refl
      one false = refl
  looked_below e (suc l) =
      any_append (λ t. member root t (entry_key e)) (every l (tries b)) ((tries b).level l ∷ [])
      ∙ ap₂ (λ (x y : Bool). x || (y || false)) (looked_below e l) ((level_for b s l).lookup e)
      ∙ swap (has (from_highest b.M l b.entries) e) (has (level b.M l b.entries) e)
      ∙ sym (any_append (same_entry e) (level b.M l b.entries) (from_highest b.M l b.entries))
    where
      swap : (x y : Bool) → x || (y || false) ≡ y || x
      swap true true = refl
      swap true false = refl
      swap false true = refl
      swap false false = refl

  pub looked_up : (e : Entry) → has_in b.L (tries b) e ≡ has b.entries e
  unfolding has_in
  looked_up e = looked_below e b.L ∙ ap (λ (es : List Entry). has es e) whole

  -- what holds of every trie of the book
  each_trie : {P : Forest → Type 0} → ((es : List Entry) (t : Forest) → TrieFor es t → P t) → (l : ℕ) → All P (every l (tries b))
  unfolding every
  each_trie h zero = cons (h _ (tries b).small (small_for b s)) nil
  each_trie h (suc l) = all_append (each_trie h l) (cons (h _ ((tries b).level l) (level_for b s l)) nil)

  -- THE NODES ENTERED are those that the rule of entering admits
  pub nodes_entered_lem : (q : Query) → nodes q b ≡ count (admitted (reaches q)) (nodes_of_tries b)
  unfolding nodes nodes_of nodes_of_tries
  nodes_entered_lem q =
      sum_equal (nodes_entered (reaches q) root []) (λ t. count (admitted (reaches q)) (nodes_in root [] t)) (each_trie (λ es t r. entered_exactly q 2 root [] t r.sound (valued r)) b.L)
      ∙ sym (count_flat (admitted (reaches q)) (nodes_in root []) (every b.L (tries b)))

  pub nodes_decided : (q : Query) → All (λ x. (admitted (reaches q) x ≡ true) ↔ ToEnter q x) (nodes_of_tries b)
  unfolding nodes_of_tries
  nodes_decided q = all_flat_map (nodes_in root []) (each_trie (λ es t r. entered_decided q 2 root [] t r.sound (valued r)) b.L)
