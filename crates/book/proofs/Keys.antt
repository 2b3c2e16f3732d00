-- Formed entries: their rows have room, their keys are those of entries, and a key gives its entry back.
use Prim.Native.Nat.{ℕ, zero, suc, ◌-◌, ◌^◌, ◌≤◌, ◌<◌}
use mathlib.Core.Path.{◌≡◌, refl}
use mathlib.Core.Bool.{Bool, true, false, not, cond, ◌&&◌, ◌||◌}
use mathlib.Core.List.{List, [], ◌∷◌, ◌++◌, map}
use native.Mathlib.Omega.{arith}
use lib.ListN.{length, length-append}
use lib.Dec.{eqb, leb, ltb}
use borrow.Author.Tests.{eqb-true, eq-eqb, leb-true, le-leb, ltb-true, ltb-false, lt-ltb}
use Rattle.buffer.specs.Lists.{All, nil, cons, none, all}
use lib.Seq.{take_at}
use Rattle.buffer.specs.Numbers.{bytes_of, byte}
use Rattle.buffer.proofs.Tests.{and_left, and_right, and_both, not_both}
use Rattle.buffer.proofs.Lists.{all_imp, all_append, all_tested, all_test, all_map}
use Rattle.buffer.proofs.Digits.{length_bytes_of, number_bytes_of, bytes_of_bytes}
use Rattle.matcher.specs.Bytes.{slash, star, path_limit, label_byte}
use Rattle.matcher.specs.Form.{path_label, too_long, formed_path, path_form, is_fine}
use Rattle.matcher.specs.Labels.{up_to_slash, labels_of}
use Rattle.matcher.proofs.Forms.{fine_path}
use Rattle.matcher.specs.declared.form.FormError.TheVariants.{TooLong, Malformed}
use Rattle.std.specs.Prelude.{Ok, Err}
use Rattle.rows.specs.Sizes.{value_size, reference_size}
use Rattle.rows.specs.Entry.{Entry, fits_row}
use Rattle.trie_theory.specs.Entries as Dimensions
use Rattle.trie_theory.specs.Strings.{at}
use Rattle.trie_theory.specs.Forest.{Key}
use Rattle.trie_theory.specs.Entries.{complete, is_value, is_path, dims}
use Rattle.entries.specs.Keys.{entry_key}
use Rattle.book.specs.Book.{formed}
use Rattle.book.specs.FromTries.{key_entry}

-- what `formed` says
pub record Formed (e : Entry) : Type 0 where
  pub path : is_fine (path_form e.path) ≡ true
  pub value : e.value < 2 ^ 64
  pub twenty : length e.reference ≡ reference_size
  pub bytes : all byte e.reference ≡ true

pub as_formed : (e : Entry) → formed e ≡ true → Formed e
unfolding formed
as_formed e h =
    let a = is_fine (path_form e.path) in
    let b = ltb e.value (2 ^ 64) in
    let c = eqb (length e.reference) reference_size in
    let d = all byte e.reference in
    let r = and_right (a && b) (c && d) h in
    let l = and_left (a && b) (c && d) h in
    record { path = and_left a b l; value = ltb-true e.value (2 ^ 64) (and_right a b l); twenty = eqb-true (length e.reference) reference_size (and_left c d r); bytes = and_right c d r }

-- a label byte is a byte, and not the end byte
label_range : (c : ℕ) → label_byte c ≡ true → (0 < c) × (c < 256)
unfolding label_byte
label_range c e = go (leb 0x20 c && leb c 0x7E) refl (and_left ((leb 0x20 c && leb c 0x7E) || (leb 0x80 c && leb c 0xFF)) (not (eqb c slash) && not (eqb c star)) e)
  where
    go : (b : Bool) → leb 0x20 c && leb c 0x7E ≡ b → b || (leb 0x80 c && leb c 0xFF) ≡ true → (0 < c) × (c < 256)
    go true h f =
        let l = leb-true 0x20 c (and_left (leb 0x20 c) (leb c 0x7E) h) in
        let u = leb-true c 0x7E (and_right (leb 0x20 c) (leb c 0x7E) h) in
        (omega arith, omega arith)
    go false h f =
        let l = leb-true 0x80 c (and_left (leb 0x80 c) (leb c 0xFF) f) in
        let u = leb-true c 0xFF (and_right (leb 0x80 c) (leb c 0xFF) f) in
        (omega arith, omega arith)

-- labels of label bytes, each behind its `/`
labels_range : (s : List ℕ) → all label_byte (up_to_slash s) ≡ true → all path_label (labels_of s) ≡ true → All (λ c. (0 < c) × (c < 256)) s
labels_range [] h k = nil
labels_range (c ∷ s) h k = go (eqb c slash) refl h k (labels_range s)
  where
    go : (b : Bool) → eqb c slash ≡ b → all label_byte (cond b [] (c ∷ up_to_slash s)) ≡ true
        → all path_label (cond b (up_to_slash s ∷ labels_of s) (labels_of s)) ≡ true
        → (all label_byte (up_to_slash s) ≡ true → all path_label (labels_of s) ≡ true → All (λ c. (0 < c) × (c < 256)) s)
        → All (λ c. (0 < c) × (c < 256)) (c ∷ s)
    go true q h k ih =
        let z = eqb-true c slash q in
        let l = and_left (path_label (up_to_slash s)) (all path_label (labels_of s)) k in
        cons {x = c} (omega arith, omega arith) (ih (and_right (not (none (up_to_slash s))) (all label_byte (up_to_slash s)) l) (and_right (path_label (up_to_slash s)) (all path_label (labels_of s)) k))
    go false q h k ih = cons (label_range c (and_left (label_byte c) (all label_byte (up_to_slash s)) h)) (ih (and_right (label_byte c) (all label_byte (up_to_slash s)) h) k)

formed_range : (s : List ℕ) → formed_path s ≡ true → All (λ c. (0 < c) × (c < 256)) s
formed_range [] e = nil
formed_range (c ∷ s) e =
    let first = and_left (eqb c slash) (all path_label (labels_of (c ∷ s))) e in
    labels_range (c ∷ s) (rw first) (and_right (eqb c slash) (all path_label (labels_of (c ∷ s))) e)

pub path_range : (e : Entry) → Formed e → All (λ c. (0 < c) × (c < 256)) e.path
path_range e f = formed_range e.path (fine_path e.path f.path)

-- a path with its end byte
ended_path : {s : List ℕ} → All (λ c. (0 < c) × (c < 256)) s → is_path (s ++ (0 ∷ [])) ≡ true
unfolding is_path
ended_path nil = refl
ended_path (cons {x = zero} h a) = absurd (omega (arith, h.0))
ended_path (cons {x = suc c} h a) = ended_path a

not_long : (s : List ℕ) → is_fine (path_form s) ≡ true → length s ≤ path_limit
unfolding path_form
not_long s e = go (too_long s) refl e
  where
    go : (b : Bool) → too_long s ≡ b → is_fine (cond b (Err TooLong) (cond (formed_path s) (Ok tt) (Err Malformed))) ≡ true → length s ≤ path_limit
    go true h f = not_both f refl
    go false h f = ltb-false path_limit (length s) h

pub path_short : (e : Entry) → Formed e → length e.path ≤ path_limit
path_short e f = not_long e.path f.path

-- THE KEY OF A FORMED ENTRY
pub entry_key_lem : (e : Entry) → formed e ≡ true → Dimensions.OfEntry (entry_key e)
unfolding entry_key complete dims is_value
entry_key_lem e h =
    let f = as_formed e h in
    let r = path_range e f in
    record {
      whole = rw (length_bytes_of value_size e.value, ended_path r);
      short = rw (length-append e.path (0 ∷ [])) (omega (arith, path_short e f));
      bytes = cons (all_imp (λ b t. ltb-true b 256 t) (all_tested byte (bytes_of value_size e.value) (bytes_of_bytes value_size e.value f.value))) (cons (all_append (all_imp (λ b t. t.1) r) (cons {x = 0} (omega arith) nil)) nil);
      named = f.twenty;
    }

pub keys_entries : (es : List Entry) → all formed es ≡ true → All Dimensions.OfEntry (map entry_key es)
keys_entries es h = all_map entry_key entry_key_lem (all_tested formed es h)

-- its row has room for it
pub fits_row_lem : (e : Entry) → formed e ≡ true → fits_row e ≡ true
unfolding fits_row
fits_row_lem e h =
    let f = as_formed e h in
    let z : all (ltb 0) e.path ≡ true = all_test (ltb 0) (all_imp (λ b t. lt-ltb 0 b t.0) (path_range e f)) in
    rw (le-leb (length e.path) path_limit (path_short e f), z, eq-eqb (length e.reference) reference_size f.twenty)

pub fits_rows : (es : List Entry) → all formed es ≡ true → all fits_row es ≡ true
fits_rows es h = all_test fits_row (all_imp fits_row_lem (all_tested formed es h))

-- a key gives its entry back
pub key_entry_lem : (e : Entry) → key_entry (entry_key e) ≡ e
unfolding key_entry entry_key
key_entry_lem e =
    let last = take_at e.path (0 ∷ []) (length (e.path ++ (0 ∷ [])) - 1) (omega (arith, length-append e.path (0 ∷ []))) in
    λ i. record { path = last i; value = number_bytes_of 7 e.value i; reference = e.reference }

-- ---- keys of entries, as a test

unfoldable pub is_entry : Key → Bool
is_entry x = complete dims x.strings && (leb (length (at 1 x.strings)) 201 && (all (all byte) x.strings && eqb (length x.reference) 20))

bytes_all : {ss : List (List ℕ)} → All (All (λ b. b < 256)) ss → all (all byte) ss ≡ true
bytes_all nil = refl
bytes_all (cons h a) = and_both (all_test byte (all_imp (λ b l. lt-ltb b 256 l) h)) (bytes_all a)

all_bytes : (ss : List (List ℕ)) → all (all byte) ss ≡ true → All (All (λ b. b < 256)) ss
all_bytes ss e = all_imp (λ s t. all_imp (λ b l. ltb-true b 256 l) (all_tested byte s t)) (all_tested (all byte) ss e)

pub entry_tested : (x : Key) → Dimensions.OfEntry x → is_entry x ≡ true
unfolding is_entry
entry_tested x e =
    and_both e.whole (and_both (le-leb (length (at 1 x.strings)) 201 e.short) (and_both (bytes_all e.bytes) (eq-eqb (length x.reference) 20 e.named)))

pub tested_entry : (x : Key) → is_entry x ≡ true → Dimensions.OfEntry x
unfolding is_entry
tested_entry x h =
    let a = complete dims x.strings in
    let b = leb (length (at 1 x.strings)) 201 in
    let c = all (all byte) x.strings in
    let d = eqb (length x.reference) 20 in
    let r = and_right a (b && (c && d)) h in
    let q = and_right b (c && d) r in
    record {
      whole = and_left a (b && (c && d)) h;
      short = leb-true (length (at 1 x.strings)) 201 (and_left b (c && d) r);
      bytes = all_bytes x.strings (and_left c d q);
      named = eqb-true (length x.reference) 20 (and_right c d q);
    }

-- the value of a key of an entry is of bytes
pub entry_valued : (x : Key) → Dimensions.OfEntry x → all byte (at 0 x.strings) ≡ true
entry_valued x e = go x.strings e.bytes
  where
    go : (ss : List (List ℕ)) → All (All (λ b. b < 256)) ss → all byte (at 0 ss) ≡ true
    go [] a = refl
    go (s ∷ ss) (cons h a) = all_test byte (all_imp (λ b l. lt-ltb b 256 l) h)
