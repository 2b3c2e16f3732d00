-- What a reading back promises: with 4, of a level that there is not, and of a level that is listed. Assumes nothing.
use mathlib.Core.Path.{◌≡◌, refl, sym, ap, ◌∙◌}
use mathlib.Core.Bool.{Bool, true, false}
use mathlib.Core.Logic.{◌⊎◌, inl, inr}
use Prim.Native.Nat.{ℕ, suc, ◌+◌, ◌*◌, ◌≤◌, ◌<◌}
use mathlib.Core.List.{List, [], map}
use native.Mathlib.Omega.{arith}
use native.Mathlib.Numerals.{add-one}
use lib.ListN.{length, length-map}
use lib.Dec.{ltb}
use borrow.Author.Tests.{lt-ltb, le-ltb}
use Rattle.buffer.proofs.Lists.{all_imp, all_test}
use Rattle.rows.specs.Sizes.{record_size}
use Rattle.rows.specs.Order.{entry_order}
use Rattle.rows.specs.Sorted.{sorted}
use Rattle.rows.proofs.Sorted.{count_all, length_sorted}
use Rattle.trie_theory.specs.Forest.{Key, keys}
use Rattle.trie_theory.specs.Entries as Entries
use Rattle.trie_theory.specs.Encode.{encode}
use Rattle.gather.specs.KeySlots.{has_slot}
use Rattle.gather.proofs.Filling.{entry_has}
use Rattle.book.specs.Digits.{level}
use Rattle.book.specs.Front.{Front, front_of, no_store}
use Rattle.book.specs.Book.{Book, Sound, held, front}
use Rattle.book.specs.Tries.{Tries, tries}
use Rattle.book.specs.Records.{record_of}
use Rattle.book.specs.Replies.{Reply, reply, result, read_number}
use Rattle.book.specs.Calls.{read_level}
use Rattle.book.specs.Step.{fill, list, step}
use Rattle.book.specs.Image.{HoldsBook}
use Rattle.book.specs.FromTries.{key_entry, entries_of, read_tries}
use Rattle.book.specs.Promises.{Accepted, NoRoom, ReadsLevel}
use Rattle.book.proofs.Numbers.{read_short, read_none}
use Rattle.book.proofs.Listing.{list_none}
use Rattle.book.proofs.Kept.{level_most}
use Rattle.book.proofs.OneCall.{front_read}
use Rattle.book.proofs.EntryKeys.{entry_back, entry_fits}
use Rattle.book.proofs.OverTries.{level_for}
use Rattle.book.proofs.FromTries.{read_tries_lem}
use Rattle.book.proofs.Good.{tries_good}
use Rattle.store.specs.Opening.{Reads}
use Rattle.store.specs.Parts.{numbered, TrieIs}
use Rattle.store.specs.declared.front.Front as Code
use Rattle.store.proofs.Places.{good_regular}
use Rattle.std.specs.Prelude.{Result, Ok, Err}
use Rattle.book.specs.Replies as Book
use Rattle.store.specs.Said.{said, refused, rows_listed}
use Rattle.store.specs.declared.refusal.Refusal.{Refusal}
use Rattle.store.specs.declared.refusal.Refusal.TheVariants.{PathMalformed, PathTooLong, ReferenceSize, NoStore, OutsideLimits, TooLittleMemory, PatternMalformed, PatternTooLong, Full, EmptyRange, NoRoom as NoRoomFor}
use Rattle.store.specs.Listing.{Listed}
use Rattle.store_read.specs.Listings.{Level, RecordsOf}

-- ---- the trie of a level

slot_of : (x : Key) → Entries.OfEntry x → has_slot x ≡ true
slot_of x e = ap has_slot (sym (entry_back x e)) ∙ entry_has (key_entry x) (entry_fits x e)

module _ (b : Book) (s : Sound b) (i : ℕ) where
  keys_few : length (keys [] ((tries b).level i)) ≤ held b
  keys_few =
      let es = level b.M i b.entries in
      omega (arith, count_all (keys [] ((tries b).level i)), (level_for b s i).kept (λ x. true), count_all es, level_most b.M i b.entries)

  rows_few : length (map (record_of ((tries b).level i)) (sorted entry_order (entries_of ((tries b).level i)))) ≤ held b
  unfolding entries_of
  rows_few =
      let f = (tries b).level i in
      omega (arith, keys_few, length-map (sorted entry_order (entries_of f)) (record_of f), length_sorted entry_order (entries_of f), length-map (keys [] f) key_entry)

  of_level : i < b.L → (t : List ℕ) → t ≡ encode ((tries b).level i) → Level t ((tries b).level i)
  of_level h t e =
      let g = (tries_good b s).levels i h in
      record {
        trie = record { regular = good_regular _ ((tries b).level i) g; sound = g.sound; high = g.high; slots = all_test has_slot (all_imp slot_of g.entries); bytes = e };
        entries = g.entries;
      }

-- ---- the promise

-- a listing whose second value is zero says so
fill_second : (b : Bool) (rows : List (List ℕ)) (answer : List ℕ) → (fill b rows 0 answer).reply.second ≡ 0
unfolding fill
fill_second true rows answer = refl
fill_second false rows answer = refl

list_second : (width : ℕ) (rows : List (List ℕ)) (answer : List ℕ) → (list width rows 0 answer).reply.second ≡ 0
unfolding list
list_second width rows answer = fill_second (ltb (length answer) (length rows * width)) rows answer

-- .. and so does each refusal
no_second : (e : Refusal) → (refused e).second ≡ 0
no_second PathMalformed = refl
no_second PathTooLong = refl
no_second ReferenceSize = refl
no_second NoStore = refl
no_second OutsideLimits = refl
no_second TooLittleMemory = refl
no_second PatternMalformed = refl
no_second PatternTooLong = refl
no_second Full = refl
no_second EmptyRange = refl
no_second (NoRoomFor rows) = refl

-- of the trie of a level below L the answer is the one of all tries
read_level_lem : (i l : ℕ) (t : Tries) (answer : List ℕ) → i < l
    → list record_size (map (record_of (t.level i)) (sorted entry_order (entries_of (t.level i)))) 0 answer ≡ read_tries i l t answer
unfolding read_tries
read_level_lem i l t answer h = rw (lt-ltb i l h)

read_beyond : (i l : ℕ) (t : Tries) (answer : List ℕ) → l ≤ i → read_tries i l t answer ≡ result (reply 0 0 0) answer
unfolding read_tries
read_beyond i l t answer h = rw (le-ltb i l h) (list_none record_size 0 answer)

pub refuses_4 : {i : ℕ} {store answer : List ℕ} → no_store (length store) (front_of store) ≡ true → ReadsLevel i store answer answer (reply 4 0 0)
refuses_4 {i} {store} {answer} h =
    let e = read_short (length store) (front_of store) h in
    record {
      refused = λ k q. ap (λ (n : ℕ). result (reply n 0 0) answer) (sym e ∙ q);
      otherwise = λ z. absurd (let y : 4 ≡ 0 = sym e ∙ z in omega arith);
      above = λ z l. absurd (let y : 4 ≡ 0 = sym e ∙ z in omega arith);
      second = refl;
      ours = λ b hb. of_book b (ap (λ (f : Front). read_number (length store) f) (sym (front_read hb)) ∙ e);
    }
  where
    of_book : (b : Book) → read_number (length store) (front b) ≡ 4 → result (reply 4 0 0) answer ≡ (step b (read_level (length store) i answer)).result
    of_book b z = unfold step in rw z

-- a store whose front is read
module _ {store : List ℕ} {g : Code.Front} (r : Reads store g) (h : no_store (length store) (front_of store) ≡ false) where
  none : read_number (length store) (front_of store) ≡ 0
  none = read_none (length store) (front_of store) h

  -- the numbers of a book that it holds
  module _ (b : Book) (hb : HoldsBook store b) where
    m_is : b.M ≡ g.m
    m_is = sym (r.m_is ∙ ap (λ (y : Front). y.M) (front_read hb))

    l_is : b.L ≡ g.l
    l_is = sym (r.l_is ∙ ap (λ (y : Front). y.L) (front_read hb))

    held_is : held b ≡ g.held
    held_is = sym (r.held_is ∙ ap (λ (y : Front). y.held) (front_read hb))

    from_tries : (i : ℕ) (answer : List ℕ) → (step b (read_level (length store) i answer)).result ≡ read_tries i b.L (tries b) answer
    from_tries i answer = read_tries_lem b hb.sound (length store) i answer (ap (λ (f : Front). read_number (length store) f) (sym (front_read hb)) ∙ none)

  pub reads_beyond : (i : ℕ) (answer : List ℕ) → g.l ≤ i → ReadsLevel i store answer answer (reply 0 0 0)
  reads_beyond i answer k =
      record {
        refused = λ n e. absurd (let y : 0 ≡ suc n = sym none ∙ e in omega arith);
        otherwise = λ z. inl (record { number = refl; room = omega arith; size = refl; after_rows = refl });
        above = λ z l. refl;
        second = refl;
        ours = λ b hb. sym (from_tries b hb i answer ∙ read_beyond i b.L (tries b) answer (omega (arith, l_is b hb)));
      }

  -- the answer of a walk over the trie of a level, of which the second value is not said
  module _ (i : ℕ) (answer : List ℕ) {trie filled : List ℕ} (x : Result (ℕ × ℕ) Refusal) (k : i < g.l) (p : TrieIs store g.m g.l (i + 1) trie)
      (w : Listed record_size (RecordsOf trie) g.held answer filled (said rows_listed x)) where
    ours_is : (b : Book) → HoldsBook store b → result (said rows_listed x) filled ≡ (step b (read_level (length store) i answer)).result
    ours_is b hb =
        let below : i < b.L = omega (arith, l_is b hb) in
        let bytes = p.is ∙ p.part_of.holds (front b) (tries b) (m_is b hb) (l_is b hb) (tries_good b hb.sound) hb.holds ∙ ap (λ (n : ℕ). encode (numbered (tries b) n)) (add-one i) in
        w.ours _ 0
        (record { trie = (tries b).level i; level = of_level b hb.sound i below trie bytes; records_are = refl; second_is = refl })
        (omega (arith, rows_few b hb.sound i, held_is b hb))
        ∙ read_level_lem i b.L (tries b) answer below
        ∙ sym (from_tries b hb i answer)

    second_zero : (b : Book) → HoldsBook store b → (said rows_listed x).second ≡ 0
    second_zero b hb =
        let below : i < b.L = omega (arith, l_is b hb) in
        ap (λ (r : Book.Result). r.reply.second) (ours_is b hb ∙ from_tries b hb i answer ∙ sym (read_level_lem i b.L (tries b) answer below))
        ∙ list_second record_size (map (record_of ((tries b).level i)) (sorted entry_order (entries_of ((tries b).level i)))) answer

  pub reads_listed : (i : ℕ) (answer : List ℕ) {trie filled : List ℕ} (n d : ℕ) → i < g.l → TrieIs store g.m g.l (i + 1) trie
      → Listed record_size (RecordsOf trie) g.held answer filled (reply 0 n d) → ReadsLevel i store answer filled (reply 0 n 0)
  reads_listed i answer {trie} {filled} n d k p w =
      record {
        refused = λ n e. absurd (let y : 0 ≡ suc n = sym none ∙ e in omega arith);
        otherwise = λ y. go w.otherwise;
        above = λ z l. absurd (omega (arith, r.l_is));
        second = refl;
        ours = λ b hb.
            let z : d ≡ 0 = second_zero i answer (Ok (n, d)) k p w b hb in
            ap (λ (y : ℕ). result (reply 0 n y) filled) (sym z) ∙ ours_is i answer (Ok (n, d)) k p w b hb;
      }
    where
      go : Accepted record_size answer filled (reply 0 n d) ⊎ NoRoom record_size g.held answer filled (reply 0 n d)
          → Accepted record_size answer filled (reply 0 n 0) ⊎ NoRoom record_size (front_of store).held answer filled (reply 0 n 0)
      go (inl a) = inl (record { number = refl; room = a.room; size = a.size; after_rows = a.after_rows })
      go (inr a) = absurd (let y : ◌≡◌ {A = ℕ} 0 11 = a.number in omega arith)

  pub reads_refused : (i : ℕ) (answer : List ℕ) {trie filled : List ℕ} (e : Refusal) → i < g.l → TrieIs store g.m g.l (i + 1) trie
      → Listed record_size (RecordsOf trie) g.held answer filled (refused e) → ReadsLevel i store answer filled (refused e)
  reads_refused i answer {trie} {filled} e k p w =
      record {
        refused = λ n q. absurd (let y : 0 ≡ suc n = sym none ∙ q in omega arith);
        otherwise = λ y. rw (← r.held_is) w.otherwise;
        above = λ z l. absurd (omega (arith, r.l_is));
        second = no_second e;
        ours = λ b hb. ours_is i answer (Err e) k p w b hb;
      }
