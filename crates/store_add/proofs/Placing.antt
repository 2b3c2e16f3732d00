-- An entry put into the small trie. Assumes nothing.
use mathlib.Core.Path.{◌≡◌, sym, ap, ◌∙◌, subst}
use Prim.Native.Nat.{ℕ, ◌+◌, ◌*◌, ◌-◌, ◌^◌, ◌%◌, ◌≤◌, ◌<◌}
use mathlib.Core.Bool.{true}
use mathlib.Core.List.{List, [], ◌∷◌, ◌++◌}
use native.Mathlib.Omega.{arith}
use native.Mathlib.Nat.{mod-lt}
use lib.ListN.{length, take, drop, length-append}
use Rattle.buffer.specs.Lists.{all}
use Rattle.buffer.specs.Numbers.{bytes_of}
use Rattle.buffer.specs.Splice.{splice}
use Rattle.buffer.proofs.Digits.{length_bytes_of}
use Rattle.buffer.proofs.Lists.{all_head, all_right, all_tested}
use Rattle.buffer.proofs.Splice.{length_splice, take_before, drop_after}
use Rattle.rows.specs.Entry.{Entry}
use Rattle.matcher.specs.Bytes.{path_limit}
use Rattle.rows.specs.Sizes.{value_size}
use Rattle.trie_theory.specs.Forest.{Key}
use Rattle.trie_theory.specs.Dimensions.{root}
use Rattle.trie_theory.specs.SmallTrie.{added}
use Rattle.trie_theory.specs.Encode.{encode}
use Rattle.trie_add.specs.Added.{growth_limit}
use Rattle.entries.specs.Keys.{entry_key}
use Rattle.book.specs.Front.{held_at, front_room, entry_room, need}
use Rattle.book.specs.Digits.{small}
use Rattle.book.specs.Book.{Book, Sound, held, front, put, formed}
use Rattle.book.specs.Tries.{tries}
use Rattle.book.specs.Image.{image, padded, Holds}
use Rattle.book.proofs.Image.{image_fits}
use Rattle.book.proofs.Good.{tries_good}
use Rattle.book.proofs.Overflow.{small_length}
use Rattle.book.proofs.Regions.{small_at, holds_small}
use Rattle.trie_read.specs.Shape.{key_of}
use Rattle.trie_read.proofs.Stretch.{length_part}
use Rattle.store.specs.Parts.{PartOf}
use Rattle.store.proofs.Places.{good_regular}
use Rattle.store_add.specs.Small.{SmallGrown}
use Rattle.store_overflow.specs.Overflow.{Overflowed}
use Rattle.store_add.specs.Placed.{Placed}
use Rattle.store_add.specs.Spelled.{Spells}
use Rattle.trie_write.specs.Keys.{spelled}
use Rattle.trie_write.specs.declared.key.Key as Code
use Rattle.store_add.proofs.Held.{small_inside, small_room, small_image}

-- the bytes that the addition of an entry takes at most
pub growth_entry : (e : Entry) → length e.path ≤ path_limit → growth_limit (entry_key e) ≤ 245
unfolding entry_key
growth_entry e h = omega (arith, length_bytes_of value_size e.value, length-append e.path (0 ∷ []), h)

-- the last of entries that are all formed
all_last : (es : List Entry) (e : Entry) → all formed (es ++ (e ∷ [])) ≡ true → formed e ≡ true
all_last es e a = all_head (all_right es (e ∷ []) (all_tested formed (es ++ (e ∷ [])) a))

module _ (m l tau n used : ℕ) (e : Entry) (store after : List ℕ) (enough : need m l ≤ length store) (short : length e.path ≤ path_limit)
    (g : SmallGrown m used (entry_key e) store after) where
  fits : small_at + length g.own ≤ length store
  fits = omega (arith, g.size, small_inside m l, enough)

  pub placed_small : n % m + 1 < m
      → ((b : Book) → Sound b → Holds store (front b) (tries b) → m ≡ b.M → l ≡ b.L → used ≡ length (encode (tries b).small))
      → Placed m l tau n e store after
  placed_small low is =
      record {
        size = ap length g.is ∙ length_splice store small_at g.own fits;
        front_kept = ap (take front_room) g.is ∙ take_before store small_at g.own fits front_room (omega arith);
        beyond = ap (drop (need m l)) g.is ∙ drop_after store small_at g.own fits (need m l) (omega (arith, g.size, small_inside m l));
        ours = λ b s s' h p q r k. of_book b s s' h p q r k;
      }
    where
      of_book : (b : Book) → Sound b → Sound (put e b) → Holds store (front b) (tries b) → m ≡ b.M → l ≡ b.L → tau ≡ b.τ → n ≡ held b
          → splice after held_at (bytes_of 4 (held b + 1)) ≡ splice store 0 (image (put e b))
      of_book b s s' h p q r k =
          let u = is b s h p q in
          let t = (tries_good b s).small in
          let below : length (small b.M b.entries) + 1 < b.M = rw (small_length b.M b.entries, ← k, ← p) low in
          let room = small_room b e s s' below store h in
          let own : g.own ≡ padded (entry_room * b.M) (encode (added root (tries b).small (entry_key e))) =
          g.are (tries b).small (good_regular _ _ t) t.ascending t.high u (omega (arith, room, growth_entry e short, u, p)) (rw p (holds_small h (image_fits b s)))
          ∙ ap (λ (x : ℕ). padded (entry_room * x) (encode (added root (tries b).small (entry_key e)))) p in
          ap (λ (x : List ℕ). splice x held_at (bytes_of 4 (held b + 1))) g.is ∙ small_image b e s s' below store h g.own own (g.size ∙ ap (λ (x : ℕ). entry_room * x) p)

-- the key of an entry, of its bytes
pub spelled_is : {e : Entry} {k : Code.Key} → Spells e k → spelled k ≡ entry_key e
unfolding entry_key
spelled_is h = λ i. key_of (h.value i) (h.path i) (h.reference i)

-- .. and of the part that the small trie has
pub placed_first : (m l tau n from to : ℕ) (e : Entry) (k : Code.Key) (store after : List ℕ) → need m l ≤ length store
    → length e.path ≤ path_limit → Spells e k → PartOf store m l 0 from to → n % m + 1 < m
    → SmallGrown m (to - from) (spelled k) store after → Placed m l tau n e store after
placed_first m l tau n from to e k store after enough short h part low g =
    placed_small m l tau n (to - from) e store after enough short
    (subst (λ (x : Key). SmallGrown m (to - from) x store after) (spelled_is h) g) low
    (λ b s h em el.
    (let e = part.holds (front b) (tries b) (sym em) (sym el) (tries_good b s) h in
    sym (length_part store from to (omega (arith, part.within, enough))) ∙ ap length e))

-- An entry put into a level
pub placed_level : (m l tau n : ℕ) (e : Entry) (store after : List ℕ) → 1 ≤ m → m ≤ n % m + 1 → n + 1 < m * 2 ^ l → Overflowed m l tau n e store after
    → Placed m l tau n e store after
placed_level m l tau n e store after some high space o =
    record {
      size = o.size;
      front_kept = o.front;
      beyond = o.beyond;
      ours = λ b s s' h p q r k.
          (let rest = mod-lt n some in
          let full : length (small b.M b.entries) + 1 ≡ b.M = rw (small_length b.M b.entries, ← k, ← p) (omega (arith, rest, high)) in
          o.ours b s (all_last b.entries e s'.formed) h p q r k full (rw (← k, ← p, ← q) space));
    }
