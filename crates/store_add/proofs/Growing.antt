-- A trie in its region, and the same trie with a key added. Assumes nothing.
use mathlib.Core.Path.{◌≡◌, refl, sym, ap, ◌∙◌}
use Prim.Native.Nat.{ℕ, ◌+◌, ◌*◌, ◌-◌, ◌≤◌, ◌<◌}
use Rattle.std.specs.Prelude.{None}
use mathlib.Core.List.{List, [], ◌∷◌, ◌++◌, append-nil, append_assoc}
use native.Mathlib.Omega.{arith}
use native.Mathlib.Nat.{zero-add}
use lib.ListN.{length, take, drop, replicate, length-append, length-replicate, replicate-append-replicate}
use lib.Seq.{take_at, drop_at}
use Rattle.buffer.specs.Splice.{splice, region}
use Rattle.buffer.proofs.Splice.{splice_is, splice_self, length_region}
use Rattle.rows.specs.Sizes.{node_limit}
use Rattle.trie_theory.specs.Forest.{Key, Forest}
use Rattle.trie_theory.specs.Dimensions.{root}
use Rattle.trie_theory.specs.SmallTrie.{added}
use Rattle.trie_theory.specs.Sound.{Ascending}
use Rattle.trie_theory.specs.Size.{height}
use Rattle.trie_theory.specs.Encode.{Regular, encode}
use Rattle.trie_add.specs.Added.{Added, growth_limit}
use Rattle.book.specs.Front.{front_room, entry_room}
use Rattle.book.specs.Image.{padded}
use Rattle.store_add.specs.Small.{SmallGrown}

-- a longer trie over a shorter one: zeros stand behind it again
pub padded_over : (n : ℕ) (a b : List ℕ) → length a ≤ length b → length b ≤ n → splice (padded n a) 0 b ≡ padded n b
unfolding padded
padded_over n a b h k =
    let z : List ℕ = replicate (length b - length a) 0 in
    let w : List ℕ = replicate (n - length b) 0 in
    let q : length b - length a + (n - length b) ≡ n - length a = omega arith in
    let e : a ++ replicate (n - length a) 0 ≡ (a ++ z) ++ w =
    ap (λ (k : ℕ). a ++ replicate k 0) (sym q) ∙ ap (λ (l : List ℕ). a ++ l) (sym (replicate-append-replicate (length b - length a) (n - length b) 0)) ∙ sym (append_assoc a z w) in
    let l : length (a ++ z) ≡ length b = length-append a z ∙ rw (length-replicate {A = ℕ} (length b - length a) 0) (omega arith) in
    splice_is (a ++ replicate (n - length a) 0) 0 b
    ∙ ap (λ (l : List ℕ). b ++ l) (ap (λ (k : ℕ). drop k (a ++ replicate (n - length a) 0)) (zero-add (length b)) ∙ ap (drop (length b)) e ∙ drop_at (a ++ z) w (length b) l)

-- the beginning of it
pub padded_part : (n : ℕ) (a : List ℕ) → region (padded n a) 0 (length a) ≡ a
unfolding padded
padded_part n a = take_at a (replicate (n - length a) 0) (length a) refl

-- a path laid over zeros, with one of them behind it
pub ended_is : (n : ℕ) (path s : List ℕ) → length path < n → s ≡ splice (replicate n 0) 0 path → take (length path + 1) s ≡ path ++ (0 ∷ [])
unfolding padded
ended_is n path s h e =
    let k : n - length path ≡ 1 + (n - length path - 1) = omega arith in
    let z : List ℕ = replicate (n - length path - 1) 0 in
    let n-is : n ≡ n - 0 = omega arith in
    let is : s ≡ (path ++ (0 ∷ [])) ++ z =
    e ∙ ap (λ (i : ℕ). splice (replicate i 0) 0 path) n-is ∙ padded_over n [] path (omega arith) (omega arith) ∙ ap (λ (i : ℕ). path ++ replicate i 0) k
    ∙ ap (λ (l : List ℕ). path ++ l) (sym (replicate-append-replicate 1 (n - length path - 1) 0)) ∙ sym (append_assoc path (0 ∷ []) z) in
    ap (take (length path + 1)) is ∙ take_at (path ++ (0 ∷ [])) z (length path + 1) (length-append path (0 ∷ []))

module _ (m used : ℕ) (x : Key) (store : List ℕ) (fits : front_room + entry_room * m ≤ length store) where
  abbrev old : List ℕ
  old = region store front_room (entry_room * m)

  -- nothing is changed where there is no room
  pub stays : entry_room * m < used + growth_limit x → SmallGrown m used x store store
  stays h =
      record {
        own = old;
        size = length_region store front_room (entry_room * m) fits;
        is = sym (splice_self store front_room (entry_room * m) fits);
        are = λ f w a k u r e. absurd (omega (arith, h, r));
      }

  pub grows : (own : List ℕ) (r : ℕ) → length own ≡ entry_room * m → Added old 0 used used None node_limit x own r → (after : List ℕ) → after ≡ splice store front_room own
      → SmallGrown m used x store after
  grows own r l d after e =
      record {
        own = own;
        size = l;
        is = e;
        are = λ f w a h u room is. is_grown f w a h u room is;
      }
    where
      is_grown : (f : Forest) → Regular 2 f → Ascending root f → height f ≤ node_limit → used ≡ length (encode f) → used + growth_limit x ≤ entry_room * m
          → old ≡ padded (entry_room * m) (encode f) → own ≡ padded (entry_room * m) (encode (added root f x))
      is_grown f w a h u room is =
          let n = entry_room * m in
          let z : used - 0 ≡ used = omega arith in
          let y : used - used ≡ 0 = omega arith in
          let p : region old 0 (used - 0) ≡ encode f = rw (z, u, is) (padded_part n (encode f)) in
          let g = d.are f w a h p in
          let own_is : own ≡ splice old 0 (encode (added root f x)) =
          g.is ∙ ap (λ (k : ℕ). splice old 0 (encode (added root f x) ++ region old used k)) y ∙ ap (splice old 0) (append-nil (encode (added root f x))) in
          own_is ∙ ap (λ (l : List ℕ). splice l 0 (encode (added root f x))) is ∙ padded_over n (encode f) (encode (added root f x)) (omega (arith, g.long, u)) (omega (arith, g.long, d.little, room))
