-- What an addition has to write: the store of the book with one entry more, from the store of the book.
use Prim.Native.Nat.{ℕ, zero, suc, ◌+◌, ◌*◌, ◌-◌, ◌^◌, ◌≤◌, ◌<◌}
use mathlib.Core.Path.{◌≡◌, refl, sym, ap, ap₂, ◌∙◌}
use mathlib.Core.Bool.{Bool, true}
use mathlib.Core.List.{List, [], ◌∷◌, ◌++◌}
use native.Mathlib.Omega.{arith}
use native.Mathlib.Nat.{mul_assoc, mul-one, pow-suc, pow-zero}
use lib.ListN.{length, take, replicate, length-append, replicate-append-replicate}
use lib.Seq.{take_at}
use Rattle.buffer.specs.Lists.{count}
use Rattle.buffer.specs.Numbers.{bytes_of}
use Rattle.buffer.specs.Splice.{splice}
use Rattle.buffer.proofs.Splice.{splice_is, splice_over, length_splice, splice_self}
use Rattle.rows.specs.Entry.{Entry}
use Rattle.trie_theory.specs.Forest.{Forest, none}
use Rattle.trie_theory.specs.Dimensions.{root}
use Rattle.trie_theory.specs.SmallTrie.{added}
use Rattle.trie_theory.specs.Encode.{encode}
use Rattle.entries.specs.Keys.{entry_key}
use Rattle.book.specs.Front.{Front, front_room, entry_room, front_bytes, need, held_at, holding}
use Rattle.book.specs.Digits.{digit, quotient, small}
use Rattle.book.specs.Book.{Book, Sound, held, front, put, formed}
use Rattle.book.specs.Tries.{Tries, level_trie, tries}
use Rattle.book.specs.FromTries.{entries_in}
use Rattle.book.specs.Image.{padded, regions, store_of, image, Holds}
use Rattle.book.proofs.Book.{all_snoc}
use Rattle.book.proofs.Image.{Fit, length_regions, length_top, formed_fit, image_fits}
use Rattle.book.proofs.Regions.{write_through, splice_mid, above, above_same, regions_above, small_at, write_small, write_held}
use Rattle.book.proofs.Additions.{small_grows, levels_stay, small_emptied, lower_emptied, higher_stay, level_built}

-- ---- a memory x whose first bytes are A, and whose others are those of `store`: x ≡ splice store 0 A

pub as_held : {store : List ℕ} {f : Front} {t : Tries} → Holds store f t → Fit f.M f.L t → store ≡ splice store 0 (store_of f t)
as_held {store} {f} {t} h fits =
    let n = need f.M f.L in
    sym (splice_self store 0 n (omega (arith, h.enough))) ∙ ap (splice store 0) h.bytes

-- a write within A
pub write_within : (store a x : List ℕ) (o : ℕ) (b : List ℕ) → x ≡ splice store 0 a → length a ≤ length store → o + length b ≤ length a
    → splice x o b ≡ splice store 0 (splice a o b)
write_within store a x o b e l h =
    let fit : 0 + length a ≤ length store = omega arith in
    let n : length (splice a o b) ≡ length a = length_splice a o b h in
    let first : take (length a) x ≡ a = ap (take (length a)) (e ∙ splice_is store 0 a) ∙ take_at a _ (length a) refl in
    write_through x a o b first h ∙ ap (λ (y : List ℕ). splice y 0 (splice a o b)) e ∙ splice_over store 0 a fit (splice a o b) n

-- ---- the small trie and the levels below l, written at once

pub write_lower : (f : Front) (t t' : Tries) (l n : ℕ) → l + n ≡ f.L → Fit f.M l t → Fit f.M l t'
    → ((k : ℕ) → l ≤ k → k < f.L → t'.level k ≡ t.level k) → splice (store_of f t) small_at (regions f.M l t') ≡ store_of f t'
unfolding store_of
write_lower f t t' l n e h h' same =
    let top = padded front_room (front_bytes f) in
    let r : (x : Tries) → regions f.M f.L x ≡ regions f.M l x ++ above f.M l n x = λ x. ap (λ (k : ℕ). regions f.M k x) (sym e) ∙ regions_above f.M l n x in
    ap (λ (s : List ℕ). splice (top ++ s) small_at (regions f.M l t')) (r t)
    ∙ splice_mid top (regions f.M l t) (regions f.M l t') (above f.M l n t) small_at (length_top f) (length_regions f.M l t' h' ∙ sym (length_regions f.M l t h))
    ∙ ap (λ (s : List ℕ). top ++ (regions f.M l t' ++ s)) (sym (above_same f.M l n t t' (λ k a u. same k a (omega arith))))
    ∙ ap (λ (s : List ℕ). top ++ s) (sym (r t'))

-- empty tries are zeros
abbrev pub zeros : ℕ → List ℕ
zeros n = replicate n 0

padded_none : (n : ℕ) → padded n (encode none) ≡ replicate n 0
unfolding padded encode
padded_none n = ap (λ (k : ℕ). replicate {A = ℕ} k 0) (let z : n - 0 ≡ n = omega arith in z)

pub regions_empty : (m l : ℕ) (t : Tries) → t.small ≡ none → ((i : ℕ) → i < l → t.level i ≡ none) → regions m l t ≡ replicate (entry_room * m * 2 ^ l) 0
unfolding regions
regions_empty m zero t s h = rw (s, pow-zero 2, mul-one (entry_room * m)) (padded_none (entry_room * m))
regions_empty m (suc l) t s h =
    let x = entry_room * m * 2 ^ l in
    let q : x + x ≡ entry_room * m * 2 ^ suc l = (let d : entry_room * m * 2 ^ suc l ≡ x * 2 = ap (λ (k : ℕ). entry_room * m * k) (pow-suc 2 l) ∙ sym (mul_assoc (entry_room * m) (2 ^ l) 2) in omega arith) in
    ap₂ ◌++◌ (regions_empty m l t s (λ i k. h i (omega arith))) (ap (λ f. padded x (encode f)) (h l (omega arith)) ∙ padded_none x)
    ∙ replicate-append-replicate {A = ℕ} x x 0 ∙ ap (λ (k : ℕ). replicate {A = ℕ} k 0) q

-- ---- ONE ENTRY MORE

module _ (b : Book) (e : Entry) (s : Sound b) where
  pub held_more : image (put e b) ≡ store_of (holding (held b + 1) (front b)) (tries (put e b))
  unfolding image
  held_more = ap (λ (n : ℕ). store_of (holding n (front b)) (tries (put e b))) (length-append b.entries (e ∷ []))

  -- It comes to M entries, and level j is the first empty one: zeros up to level j, and there the trie of all that was gathered, in whatever
  -- sequence, and the held number
  pub add_level : formed e ≡ true → (j : ℕ) → j < b.L → length (small b.M b.entries) + 1 ≡ b.M → digit j (quotient b.M b.entries) ≡ 0
      → ((i : ℕ) → i < j → digit i (quotient b.M b.entries) ≡ 1) → (xs : List Entry)
      → ((p : Entry → Bool) → count p xs ≡ count p (entries_in j (tries b) ++ (e ∷ [])))
      → let n = entry_room * b.M * 2 ^ j in
      splice (splice (image b) small_at (replicate n 0 ++ padded n (encode (level_trie b.τ xs)))) held_at (bytes_of 4 (held b + 1)) ≡ image (put e b)
  unfolding image regions
  add_level f j low h empty others xs c =
      let n = entry_room * b.M * 2 ^ j in
      let t = tries b in
      let t' = tries (put e b) in
      let fit = image_fits b s in
      let fit' = formed_fit (put e b) s.limits (all_snoc formed b.entries e s.formed f) in
      let lower : regions b.M j t' ≡ replicate n 0 = regions_empty b.M j t' (small_emptied b e j h empty others) (lower_emptied b e j h empty others) in
      let new : t'.level j ≡ level_trie b.τ xs = level_built b e j h empty others s f xs c in
      ap (λ (x : List ℕ). splice (splice (store_of (front b) t) small_at x) held_at (bytes_of 4 (held b + 1))) (ap₂ (λ (x : List ℕ) (g : Forest). x ++ padded n (encode g)) (sym lower) (sym new))
      ∙ ap (λ (x : List ℕ). splice x held_at (bytes_of 4 (held b + 1)))
      (write_lower (front b) t t' (suc j) (b.L - suc j) (omega arith) (record { small = fit.small; levels = λ i l. fit.levels i (omega arith) }) (record { small = fit'.small; levels = λ i l. fit'.levels i (omega arith) }) (λ k l u. higher_stay b e j h empty others k l))
      ∙ write_held (front b) t' (held b + 1)
      ∙ sym held_more

  module _ (s' : Sound (put e b)) where
    -- the small trie stays below M entries: it is written anew, and the held number
    pub add_small : length (small b.M b.entries) + 1 < b.M
        → splice (splice (image b) small_at (padded (entry_room * b.M) (encode (added root (tries b).small (entry_key e))))) held_at (bytes_of 4 (held b + 1))
        ≡ image (put e b)
    unfolding image
    add_small h =
        let t = tries b in
        let t' = tries (put e b) in
        let g = small_grows b e h in
        ap (λ (f : Forest). splice (splice (store_of (front b) t) small_at (padded (entry_room * b.M) (encode f))) held_at (bytes_of 4 (held b + 1))) (sym g)
        ∙ ap (λ (x : List ℕ). splice x held_at (bytes_of 4 (held b + 1))) (write_small (front b) t (image_fits b s) t' (λ i l. levels_stay b e h i) (image_fits (put e b) s').small)
        ∙ write_held (front b) t' (held b + 1)
        ∙ sym held_more
