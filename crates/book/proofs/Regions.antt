-- Where a trie lies in a store, what is read there, and what a write there makes of the store.
use Prim.Native.Nat.{ℕ, zero, suc, ◌+◌, ◌*◌, ◌-◌, ◌^◌, ◌≤◌, ◌<◌}
use mathlib.Core.Path.{◌≡◌, refl, sym, ap, ap₂, ◌∙◌}
use mathlib.Core.List.{List, [], ◌++◌, append_assoc, append-nil}
use native.Mathlib.Omega.{arith}
use native.Mathlib.Nat.{zero-add, add-zero, add-suc, mul_assoc, mul-le-mul_left, pow-suc}
use lib.Pow.{pow_pos, pow_mono}
use Rattle.buffer.proofs.Digits.{length_bytes_of}
use lib.ListN.{length, take, drop, replicate, length-append, take-append-drop}
use lib.Seq.{take_at, drop_at, take-append-le, drop-append-le}
use Rattle.buffer.specs.Splice.{splice, region}
use Rattle.buffer.specs.Numbers.{bytes_of}
use Rattle.buffer.proofs.Splice.{splice_is, length_splice, region_take}
use Rattle.trie_theory.specs.Encode.{encode}
use Rattle.book.specs.Front.{Front, front_size, held_at, front_room, entry_room, front_bytes, holding, need}
use Rattle.book.specs.Tries.{Tries}
use Rattle.book.specs.Image.{padded, regions, store_of, Holds}
use Rattle.book.proofs.Image.{Fit, length_padded, length_regions, length_top}

-- ---- lists in three parts

region_mid : (a p c : List ℕ) (o n : ℕ) → length a ≡ o → length p ≡ n → region (a ++ (p ++ c)) o n ≡ p
region_mid a p c o n h k = rw (drop_at a (p ++ c) o h) (take_at p c n k)

pub splice_mid : (a p p' c : List ℕ) (o : ℕ) → length a ≡ o → length p' ≡ length p → splice (a ++ (p ++ c)) o p' ≡ a ++ (p' ++ c)
splice_mid a p p' c o h k =
    let e : drop (o + length p') (a ++ (p ++ c)) ≡ c =
    ap (drop (o + length p')) (sym (append_assoc a p c)) ∙ drop_at (a ++ p) c (o + length p') (length-append a p ∙ omega arith) in
    rw (splice_is (a ++ (p ++ c)) o p', take_at a (p ++ c) o h, e)

splice_append : (x r : List ℕ) (o : ℕ) (b : List ℕ) → o + length b ≤ length x → splice (x ++ r) o b ≡ splice x o b ++ r
splice_append x r o b h =
    let k : o ≤ length x = omega arith in
    rw (splice_is (x ++ r) o b, splice_is x o b, take-append-le o x r k, drop-append-le (o + length b) x r h)
    (ap (λ (l : List ℕ). take o x ++ l) (sym (append_assoc b (drop (o + length b) x) r)) ∙ sym (append_assoc (take o x) (b ++ drop (o + length b) x) r))

-- a write within the first bytes of a list is the first bytes written anew
pub write_through : (s x : List ℕ) (o : ℕ) (b : List ℕ) → take (length x) s ≡ x → o + length b ≤ length x
    → splice s o b ≡ splice s 0 (splice x o b)
write_through s x o b e h =
    let r = drop (length x) s in
    let whole : s ≡ x ++ r = sym (take-append-drop (length x) s) ∙ ap (λ (l : List ℕ). l ++ r) e in
    let y = splice x o b in
    let n : length y ≡ length x = length_splice x o b h in
    let left : splice s o b ≡ y ++ r = ap (λ (l : List ℕ). splice l o b) whole ∙ splice_append x r o b h in
    left ∙ sym (splice_is s 0 y ∙ ap (λ (k : ℕ). y ++ drop k s) (zero-add (length y) ∙ n))

-- ---- a store in three parts

-- the regions of n levels from level i on
unfoldable pub above : ℕ → ℕ → ℕ → Tries → List ℕ
above m i zero t = []
above m i (suc n) t = above m i n t ++ padded (entry_room * m * 2 ^ (i + n)) (encode (t.level (i + n)))

pub regions_above : (m i n : ℕ) (t : Tries) → regions m (i + n) t ≡ regions m i t ++ above m i n t
unfolding above regions
regions_above m i zero t = rw (add-zero i) (sym (append-nil (regions m i t)))
regions_above m i (suc n) t =
    let p = padded (entry_room * m * 2 ^ (i + n)) (encode (t.level (i + n))) in
    rw (add-suc i n) (ap (λ (l : List ℕ). l ++ p) (regions_above m i n t) ∙ append_assoc (regions m i t) (above m i n t) p)

-- what the regions depend on
pub regions_same : (m l : ℕ) (t t' : Tries) → t'.small ≡ t.small → ((i : ℕ) → i < l → t'.level i ≡ t.level i) → regions m l t' ≡ regions m l t
unfolding regions
regions_same m zero t t' s h = rw s
regions_same m (suc l) t t' s h = ap₂ ◌++◌ (regions_same m l t t' s (λ i k. h i (omega arith))) (ap (λ f. padded (entry_room * m * 2 ^ l) (encode f)) (h l (omega arith)))

pub above_same : (m i n : ℕ) (t t' : Tries) → ((k : ℕ) → i ≤ k → k < i + n → t'.level k ≡ t.level k) → above m i n t' ≡ above m i n t
unfolding above
above_same m i zero t t' h = refl
above_same m i (suc n) t t' h = ap₂ ◌++◌ (above_same m i n t t' (λ k a b. h k a (omega arith))) (ap (λ f. padded (entry_room * m * 2 ^ (i + n)) (encode f)) (h (i + n) (omega arith) (omega arith)))

-- where the small trie, and level i, begin
abbrev pub small_at : ℕ
small_at = front_room

abbrev pub level_at : ℕ → ℕ → ℕ
level_at m i = front_room + entry_room * m * 2 ^ i

module _ (f : Front) (t : Tries) where
  top : List ℕ
  top = padded front_room (front_bytes f)

  at_small : store_of f t ≡ top ++ (padded (entry_room * f.M) (encode t.small) ++ above f.M 0 f.L t)
  unfolding store_of top regions
  at_small =
      ap (λ (l : List ℕ). padded front_room (front_bytes f) ++ l)
      (ap (λ (n : ℕ). regions f.M n t) (sym (zero-add f.L)) ∙ regions_above f.M 0 f.L t)

  at_level : (i : ℕ) → i < f.L → store_of f t
      ≡ (top ++ regions f.M i t) ++ (padded (entry_room * f.M * 2 ^ i) (encode (t.level i)) ++ above f.M (suc i) (f.L - suc i) t)
  unfolding store_of top regions
  at_level i h =
      let n = f.L - suc i in
      let p = padded (entry_room * f.M * 2 ^ i) (encode (t.level i)) in
      let l : suc i + n ≡ f.L = omega arith in
      let e : regions f.M f.L t ≡ regions f.M i t ++ (p ++ above f.M (suc i) n t) =
      ap (λ (k : ℕ). regions f.M k t) (sym l) ∙ regions_above f.M (suc i) n t ∙ append_assoc (regions f.M i t) p (above f.M (suc i) n t) in
      ap (λ (x : List ℕ). padded front_room (front_bytes f) ++ x) e
      ∙ sym (append_assoc (padded front_room (front_bytes f)) (regions f.M i t) (p ++ above f.M (suc i) n t))

  module _ (fits : Fit f.M f.L t) where
    before_level : (i : ℕ) → i < f.L → length (top ++ regions f.M i t) ≡ level_at f.M i
    unfolding top
    before_level i h =
        let r = length_regions f.M i t (record { small = fits.small; levels = λ k l. fits.levels k (omega arith) }) in
        omega (arith, length-append (padded front_room (front_bytes f)) (regions f.M i t), length_top f)

    -- READ THERE
    pub region_small : region (store_of f t) small_at (entry_room * f.M) ≡ padded (entry_room * f.M) (encode t.small)
    unfolding top
    region_small = rw at_small (region_mid top _ _ front_room (entry_room * f.M) (length_top f) (length_padded (entry_room * f.M) (encode t.small) fits.small))

    pub region_level : (i : ℕ) → i < f.L → region (store_of f t) (level_at f.M i) (entry_room * f.M * 2 ^ i) ≡ padded (entry_room * f.M * 2 ^ i) (encode (t.level i))
    region_level i h =
        rw (at_level i h)
        (region_mid (top ++ regions f.M i t) _ _ (level_at f.M i) (entry_room * f.M * 2 ^ i) (before_level i h) (length_padded (entry_room * f.M * 2 ^ i) (encode (t.level i)) (fits.levels i h)))

    -- WRITTEN THERE: a small trie, or a level, anew
    pub write_small : (t' : Tries) → ((i : ℕ) → i < f.L → t'.level i ≡ t.level i) → length (encode t'.small) ≤ entry_room * f.M
        → splice (store_of f t) small_at (padded (entry_room * f.M) (encode t'.small)) ≡ store_of f t'
    unfolding top
    write_small t' same few =
        let n = entry_room * f.M in
        let a = above_same f.M 0 f.L t t' (λ k l h. same k (omega arith)) in
        ap (λ (s : List ℕ). splice s small_at (padded n (encode t'.small))) at_small
        ∙ splice_mid top (padded n (encode t.small)) (padded n (encode t'.small)) (above f.M 0 f.L t) front_room (length_top f)
        (length_padded n (encode t'.small) few ∙ sym (length_padded n (encode t.small) fits.small))
        ∙ ap (λ (x : List ℕ). top ++ (padded n (encode t'.small) ++ x)) (sym a)
        ∙ sym (Rattle.book.proofs.Regions.at_small f t')

    -- (no proof cites it: an addition writes all regions up to a level, by write_lower)
    pub write_level : (t' : Tries) (i : ℕ) → i < f.L → t'.small ≡ t.small → ((k : ℕ) → k < f.L → (k ≡ i → ⊥) → t'.level k ≡ t.level k)
        → length (encode (t'.level i)) ≤ entry_room * f.M * 2 ^ i
        → splice (store_of f t) (level_at f.M i) (padded (entry_room * f.M * 2 ^ i) (encode (t'.level i))) ≡ store_of f t'
    unfolding top
    write_level t' i h small same few =
        let n = entry_room * f.M * 2 ^ i in
        let c = above f.M (suc i) (f.L - suc i) in
        let a = above_same f.M (suc i) (f.L - suc i) t t' (λ k l u. same k (omega arith) (λ z. omega arith)) in
        let r = regions_same f.M i t t' small (λ k l. same k (omega arith) (λ z. omega arith)) in
        ap (λ (s : List ℕ). splice s (level_at f.M i) (padded n (encode (t'.level i)))) (at_level i h)
        ∙ splice_mid (top ++ regions f.M i t) (padded n (encode (t.level i))) (padded n (encode (t'.level i))) (c t) (level_at f.M i) (before_level i h)
        (length_padded n (encode (t'.level i)) few ∙ sym (length_padded n (encode (t.level i)) (fits.levels i h)))
        ∙ ap₂ (λ (x y : List ℕ). (top ++ x) ++ (padded n (encode (t'.level i)) ++ y)) (sym r) (sym a)
        ∙ sym (Rattle.book.proofs.Regions.at_level f t' i h)

-- the held number, in its four bytes
pub write_held : (f : Front) (t : Tries) (n : ℕ) → splice (store_of f t) held_at (bytes_of 4 n) ≡ store_of (holding n f) t
unfolding store_of padded front_bytes
write_held f t n =
    let a = bytes_of 4 f.M ++ (bytes_of 4 f.L ++ bytes_of 4 f.τ) in
    let zeros : List ℕ = replicate (front_room - front_size) 0 in
    let r = regions f.M f.L t in
    let e : (k : ℕ) → store_of (holding k f) t ≡ a ++ (bytes_of 4 k ++ (zeros ++ r)) = λ k. unfold bytes_of in refl in
    let twelve : length a ≡ held_at = unfold bytes_of in refl in
    ap (λ (s : List ℕ). splice s held_at (bytes_of 4 n)) (e f.held)
    ∙ splice_mid a (bytes_of 4 f.held) (bytes_of 4 n) (zeros ++ r) held_at twelve (length_bytes_of 4 n ∙ sym (length_bytes_of 4 f.held))
    ∙ sym (e n)

-- ---- a memory that holds a store

module _ {store : List ℕ} {f : Front} {t : Tries} (h : Holds store f t) (fits : Fit f.M f.L t) where
  pub holds_small : region store small_at (entry_room * f.M) ≡ padded (entry_room * f.M) (encode t.small)
  unfolding need
  holds_small =
      let l : entry_room * f.M * 1 ≤ entry_room * f.M * 2 ^ f.L = mul-le-mul_left (entry_room * f.M) (pow_pos f.L) in
      region_take store (need f.M f.L) small_at (entry_room * f.M) (omega arith) h.enough
      ∙ ap (λ (s : List ℕ). region s small_at (entry_room * f.M)) h.bytes ∙ region_small f t fits

  pub holds_level : (i : ℕ) → i < f.L → region store (level_at f.M i) (entry_room * f.M * 2 ^ i) ≡ padded (entry_room * f.M * 2 ^ i) (encode (t.level i))
  unfolding need
  holds_level i k =
      let n = entry_room * f.M * 2 ^ i in
      let l : entry_room * f.M * 2 ^ suc i ≤ entry_room * f.M * 2 ^ f.L = mul-le-mul_left (entry_room * f.M) (pow_mono k) in
      let d : entry_room * f.M * 2 ^ suc i ≡ n * 2 = ap (λ (x : ℕ). entry_room * f.M * x) (pow-suc 2 i) ∙ sym (mul_assoc (entry_room * f.M) (2 ^ i) 2) in
      region_take store (need f.M f.L) (level_at f.M i) n (omega arith) h.enough
      ∙ ap (λ (s : List ℕ). region s (level_at f.M i) n) h.bytes ∙ region_level f t fits i k
