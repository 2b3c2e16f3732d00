-- The bytes of a store give its numbers and tries back: books that one store holds have the same numbers and the same tries.
use Prim.Native.Nat.{ℕ, zero, suc, ◌*◌, ◌-◌, ◌^◌, ◌≤◌, ◌<◌}
use mathlib.Core.Path.{◌≡◌, refl, sym, ap, ap₂, ◌∙◌, subst}
use mathlib.Core.Logic.{◌⊎◌, inl, inr, ⊎_elim}
use mathlib.Core.Bool.{true}
use mathlib.Core.List.{List, [], ◌∷◌, ◌++◌, append-nil, map}
use native.Mathlib.Omega.{arith}
use native.Mathlib.Nat.{zero-mul}
use lib.ListN.{length, replicate, length-append}
use lib.Dec.{eqb}
use borrow.Author.Tests.{eqb-true}
use Rattle.buffer.specs.Lists.{All, nil, cons, all, flat}
use Rattle.buffer.specs.Splice.{region}
use Rattle.buffer.specs.Numbers.{bytes_of, number}
use Rattle.buffer.proofs.Tests.{and_left, and_right}
use Rattle.buffer.proofs.Lists.{tested_left, tested_right}
use Rattle.buffer.proofs.Digits.{number_bytes_of}
use Rattle.trie_theory.specs.Forest.{Strings, Key, Forest, none, leaf, inner}
use Rattle.trie_theory.specs.Dimensions.{root}
use Rattle.trie_theory.specs.Sound as Trie
use Rattle.trie_theory.specs.Sound.{Wide}
use Rattle.trie_theory.specs.Encode.{suffix_bytes, node_bytes, encode, WholeReference, Regular}
use Rattle.trie_theory.proofs.SoundLaws.{root_single}
use Rattle.trie_theory.proofs.Encode.{sound_regular, node_parts, encode_injective}
use Rattle.rows.specs.Entry.{Entry}
use Rattle.book.specs.Front.{Front, entry_room}
use Rattle.book.specs.Book.{Book, front}
use Rattle.book.specs.Tries.{every, tries}
use Rattle.book.specs.Image.{padded, HoldsBook}
use Rattle.book.proofs.Image.{image_fits}
use Rattle.book.proofs.OneCall.{front_read}
use Rattle.book.proofs.Regions.{holds_small, holds_level, small_at, level_at}
use Rattle.book.proofs.OverTries.{TrieFor, named, small_for, level_for}

-- ---- zeros

all_zeros : (n : ℕ) → all (eqb 0) (replicate n 0) ≡ true
all_zeros zero = refl
all_zeros (suc n) = all_zeros n

number_zero : (s : List ℕ) → all (eqb 0) s ≡ true → number s ≡ 0
unfolding number
number_zero [] e = refl
number_zero (c ∷ s) e =
    let z : 0 ≡ c = eqb-true 0 c (and_left (eqb 0 c) (all (eqb 0) s) e) in
    rw (← z, number_zero s (and_right (eqb 0 c) (all (eqb 0) s) e), zero-mul (256 ^ length s))

part_zeros : (a b : List ℕ) → all (eqb 0) (a ++ b) ≡ true → (all (eqb 0) a ≡ true) × (all (eqb 0) b ≡ true)
part_zeros a b e = (tested_left (eqb 0) a b e, tested_right (eqb 0) a b e)

-- ---- a trie's root, leaf or inner node

record Rooted (n : ℕ) (f : Forest) : Type 0 where
  kind : ℕ
  strings : Strings
  body : List ℕ
  bytes : encode f ≡ node_bytes kind strings body
  wide : length strings ≡ n
  seen : kind ≡ 0 → 0 < length body

suffix_long : (n : ℕ) (t : Key) → Wide n t × WholeReference t → 20 ≤ length (suffix_bytes t)
unfolding suffix_bytes
suffix_long n t h =
    omega (arith, length-append (map length t.strings) (t.reference ++ flat t.strings), length-append t.reference (flat t.strings), h.1)

suffixes_long : (n : ℕ) {ts : List Key} → 1 ≤ length ts → All (λ t. Wide n t × WholeReference t) ts → 0 < length (flat (map suffix_bytes ts))
unfolding flat
suffixes_long n l nil = absurd (omega arith)
suffixes_long n l (cons {x = t} {xs = ts} h a) = omega (arith, length-append (suffix_bytes t) (flat (map suffix_bytes ts)), suffix_long n t h)

rooted : (n : ℕ) (f : Forest) → Trie.Sound n root f → Regular n f → (f ≡ none) ⊎ Rooted n f
unfolding Trie.Sound Regular encode
rooted n none s r = inl refl
rooted n (leaf t ts more) s r =
    inr (record {
      kind = 0;
      strings = t;
      body = flat (map suffix_bytes ts);
      bytes = ap (λ (f : Forest). node_bytes 0 t (flat (map suffix_bytes ts)) ++ encode f) (root_single n t more s.0) ∙ append-nil (node_bytes 0 t (flat (map suffix_bytes ts)));
      wide = r.0;
      seen = λ z. suffixes_long n s.1 r.1;
    })
rooted n (inner d t children more) s r =
    inr (record {
      kind = suc d;
      strings = t;
      body = encode children;
      bytes = ap (λ (f : Forest). node_bytes (suc d) t (encode children) ++ encode f) (root_single n t more s.0) ∙ append-nil (node_bytes (suc d) t (encode children));
      wide = r.0;
      seen = λ z. absurd (omega arith);
    })

-- a root is not all zeros
not_zeros : (n : ℕ) (f : Forest) → Rooted n f → (m k : ℕ) → replicate k 0 ≡ encode f ++ replicate m 0 → ⊥
unfolding node_bytes
not_zeros n f r m k e =
    let z : all (eqb 0) (node_bytes r.kind r.strings r.body) ≡ true =
    ap (all (eqb 0)) (sym r.bytes) ∙ (part_zeros (encode f) (replicate m 0) (sym (ap (all (eqb 0)) e) ∙ all_zeros k)).0 in
    let rest = map length r.strings ++ (bytes_of 4 (length r.body) ++ (flat r.strings ++ r.body)) in
    let first : 0 ≡ r.kind = eqb-true 0 r.kind (and_left (eqb 0 r.kind) (all (eqb 0) rest) z) in
    let p = part_zeros (map length r.strings) (bytes_of 4 (length r.body) ++ (flat r.strings ++ r.body)) (and_right (eqb 0 r.kind) (all (eqb 0) rest) z) in
    let q = part_zeros (bytes_of 4 (length r.body)) (flat r.strings ++ r.body) p.1 in
    let long : length r.body ≡ 0 = sym (number_bytes_of 3 (length r.body)) ∙ number_zero (bytes_of 4 (length r.body)) q.0 in
    omega (arith, r.seen (sym first))

same_root : (n : ℕ) (f g : Forest) → Rooted n f → Rooted n g → (m k : ℕ) → encode f ++ replicate m 0 ≡ encode g ++ replicate k 0 → encode f ≡ encode g
same_root n f g r t m k e =
    let p = node_parts r.kind t.kind r.strings t.strings r.body t.body (replicate m 0) (replicate k 0) (r.wide ∙ sym t.wide)
    (ap (λ (s : List ℕ). s ++ replicate m 0) (sym r.bytes) ∙ e ∙ ap (λ (s : List ℕ). s ++ replicate k 0) t.bytes) in
    r.bytes ∙ (λ i. node_bytes (p.kind i) (p.strings i) (p.body i)) ∙ sym t.bytes

-- THE BYTES OF A REGION GIVE ITS TRIE BACK, whatever zeros are behind it
module _ (n : ℕ) (f g : Forest) (sf : Trie.Sound n root f) (sg : Trie.Sound n root g) (rf : Regular n f) (rg : Regular n g) where
  zeros_injective : (m k : ℕ) → encode f ++ replicate m 0 ≡ encode g ++ replicate k 0 → f ≡ g
  unfolding encode
  zeros_injective m k e =
      ⊎_elim
      (λ (z : f ≡ none). ⊎_elim (λ (y : g ≡ none). z ∙ sym y) (λ (t : Rooted n g). absurd (not_zeros n g t k m (empty z ∙ e))) (rooted n g sg rg))
      (λ (r : Rooted n f).
      ⊎_elim (λ (y : g ≡ none). absurd (not_zeros n f r m k (empty' y ∙ sym e)))
      (λ (t : Rooted n g). encode_injective n f g rf rg (same_root n f g r t m k e)) (rooted n g sg rg))
      (rooted n f sf rf)
    where
      empty : f ≡ none → replicate m 0 ≡ encode f ++ replicate m 0
      empty z = ap (λ (h : Forest). encode h ++ replicate m 0) (sym z)

      empty' : g ≡ none → replicate k 0 ≡ encode g ++ replicate k 0
      empty' y = ap (λ (h : Forest). encode h ++ replicate k 0) (sym y)

region_injective : (n : ℕ) {es ds : List Entry} {f g : Forest} → TrieFor es f → TrieFor ds g → padded n (encode f) ≡ padded n (encode g) → f ≡ g
unfolding padded
region_injective n {f = f} {g = g} r t e =
    zeros_injective 2 f g r.sound t.sound (sound_regular 2 root [] f r.sound (named r)) (sound_regular 2 root [] g t.sound (named t)) (n - length (encode f)) (n - length (encode g)) e

-- ---- two books that one store holds

pub record Same (b b' : Book) : Type 0 where
  pub front : front b ≡ front b'
  pub small : (tries b).small ≡ (tries b').small
  pub level : (i : ℕ) → i < b.L → (tries b).level i ≡ (tries b').level i

pub same_tries : {store : List ℕ} {b b' : Book} → HoldsBook store b → HoldsBook store b' → Same b b'
same_tries {store} {b} {b'} h h' =
    let f : front b ≡ front b' = sym (front_read h) ∙ front_read h' in
    let m : b.M ≡ b'.M = ap (λ (x : Front). x.M) f in
    let l : b.L ≡ b'.L = ap (λ (x : Front). x.L) f in
    let fit = image_fits b h.sound in
    let fit' = image_fits b' h'.sound in
    record {
      front = f;
      small =
          region_injective (entry_room * b.M) (small_for b h.sound) (small_for b' h'.sound)
          (sym (holds_small h.holds fit)
          ∙ subst (λ (k : ℕ). region store small_at (entry_room * k) ≡ padded (entry_room * k) (encode (tries b').small)) (sym m) (holds_small h'.holds fit'));
      level = λ i k.
          region_injective (entry_room * b.M * 2 ^ i) (level_for b h.sound i) (level_for b' h'.sound i)
          (sym (holds_level h.holds fit i k)
          ∙ subst (λ (x : ℕ). region store (level_at x i) (entry_room * x * 2 ^ i) ≡ padded (entry_room * x * 2 ^ i) (encode ((tries b').level i))) (sym m) (holds_level h'.holds fit' i (subst (λ (x : ℕ). i < x) l k)));
    }

-- all their tries
pub same_every : {b b' : Book} → Same b b' → (l : ℕ) → l ≤ b.L → every l (tries b) ≡ every l (tries b')
unfolding every
same_every s zero h = ap (λ (f : Forest). f ∷ []) s.small
same_every s (suc l) h = ap₂ (λ (fs : List Forest) (f : Forest). fs ++ (f ∷ [])) (same_every s l (omega arith)) (s.level l h)
