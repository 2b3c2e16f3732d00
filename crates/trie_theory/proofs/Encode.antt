-- The bytes of a trie are as many as its cost, and give the trie back: two tries with the same bytes are the same.
use Prim.Native.Nat.{ℕ, suc, ◌+◌}
use mathlib.Core.Path.{◌≡◌, refl, sym, ap, ap₂, ◌∙◌}
use mathlib.Core.List.{List, [], ◌∷◌, ◌++◌, map, append_assoc}
use native.Mathlib.Omega.{arith}
use lib.ListN.{length, length-append, length-map}
use Rattle.trie_theory.specs.Forest.{Strings, Key, Forest, none, leaf, inner, join, under, keys}
use Rattle.buffer.specs.Lists.{All, nil, cons, sum, flat}
use Rattle.trie_theory.specs.Strings.{total}
use Rattle.trie_theory.specs.Dimensions.{Above, below}
use Rattle.trie_theory.specs.Sound.{Wide, Sound}
use Rattle.trie_theory.specs.Encode.{suffix_bytes, node_bytes, encode, WholeReference, Regular}
use Rattle.buffer.specs.Sizes.{reference_size}
use Rattle.buffer.specs.Numbers.{bytes_of, number}
use Rattle.buffer.proofs.Digits.{length_bytes_of, number_bytes_of}
use Rattle.trie_theory.specs.Size.{cost}
use Rattle.buffer.proofs.Lists.{all_left, all_right, all_unmap, all_both}
pub use Rattle.buffer.proofs.Lists.{halves}

pub sound_regular : (n : ℕ) (above : Above) (k : Strings) (f : Forest) → Sound n above f → All WholeReference (keys k f) → Regular n f
unfolding Regular Sound keys under
sound_regular n above k none h a = tt
sound_regular n above k (leaf s ts more) h a = (
  h.0.wide,
  all_both h.2 (all_unmap (under (join k s)) (λ t e. e) ts (all_left (map (under (join k s)) ts) (keys k more) a)),
  sound_regular n above k more h.3 (all_right (map (under (join k s)) ts) (keys k more) a),
)
sound_regular n above k (inner d s children more) h a = (
  h.0.wide,
  sound_regular n (below d) (join k s) children h.2 (all_left (keys (join k s) children) (keys k more) a),
  sound_regular n above k more h.3 (all_right (keys (join k s) children) (keys k more) a),
)

length_flat : (ss : Strings) → length (flat ss) ≡ total ss
unfolding flat total
length_flat [] = refl
length_flat (s ∷ ss) = omega (arith, length-append s (flat ss), length_flat ss)

pub length_node : (kind : ℕ) (s : Strings) (body : List ℕ) → length (node_bytes kind s body) ≡ 5 + length s + total s + length body
unfolding node_bytes
length_node kind s body =
    omega (
      arith,
      length-append (map length s) (bytes_of 4 (length body) ++ (flat s ++ body)),
      length-append (bytes_of 4 (length body)) (flat s ++ body),
      length_bytes_of 4 (length body),
      length-map s length,
      length-append (flat s) body,
      length_flat s,
    )

pub length_suffix : (n : ℕ) (t : Key) → Wide n t → WholeReference t → length (suffix_bytes t) ≡ reference_size + n + total t.strings
unfolding suffix_bytes
length_suffix n t w r =
    omega (
      arith,
      length-append (map length t.strings) (t.reference ++ flat t.strings),
      length-map t.strings length,
      length-append t.reference (flat t.strings),
      length_flat t.strings,
    )

length_suffixes : (n : ℕ) {ts : List Key} → All (λ t. Wide n t × WholeReference t) ts
    → length (flat (map suffix_bytes ts)) ≡ sum (λ t. reference_size + n + total t.strings) ts
unfolding flat sum
length_suffixes n nil = refl
length_suffixes n (cons {x = t} {xs = ts} h a) =
    omega (arith, length-append (suffix_bytes t) (flat (map suffix_bytes ts)), length_suffix n t h.0 h.1, length_suffixes n a)

-- AS MANY BYTES AS ITS COST: in two dimensions 7 for a node and 22 for a suffix
pub length_encode : (n : ℕ) (f : Forest) → Regular n f → length (encode f) ≡ cost (5 + n) (reference_size + n) f
unfolding encode cost Regular
length_encode n none h = refl
length_encode n (leaf s ts more) h =
    let body = flat (map suffix_bytes ts) in
    omega (
      arith,
      length-append (node_bytes 0 s body) (encode more),
      length_node 0 s body,
      h.0,
      length_suffixes n h.1,
      length_encode n more h.2,
    )
length_encode n (inner d s children more) h =
    omega (
      arith,
      length-append (node_bytes (suc d) s (encode children)) (encode more),
      length_node (suc d) s (encode children),
      h.0,
      length_encode n children h.1,
      length_encode n more h.2,
    )

-- strings by their lengths and their bytes one after the other
strings_parts : (s t : Strings) (a b : List ℕ) → map length s ≡ map length t → flat s ++ a ≡ flat t ++ b → (s ≡ t) × (a ≡ b)
unfolding flat
strings_parts [] [] a b l e = (refl, e)
strings_parts [] (t ∷ ts) a b l e = absurd (let z : ◌≡◌ {A = ℕ} 0 1 = cc in omega arith)
strings_parts (s ∷ ss) [] a b l e = absurd (let z : ◌≡◌ {A = ℕ} 0 1 = cc in omega arith)
strings_parts (s ∷ ss) (t ∷ ts) a b l e =
    let i : length s ≡ length t = cc in
    let r = halves s t (flat ss ++ a) (flat ts ++ b) i (sym (append_assoc s (flat ss) a) ∙ e ∙ append_assoc t (flat ts) b) in
    let q = strings_parts ss ts a b (cc) r.1 in
    (ap₂ ◌∷◌ r.0 q.0, q.1)

equal_lengths : (s t : Strings) → length s ≡ length t → length (map length s) ≡ length (map length t)
equal_lengths s t e = length-map s length ∙ e ∙ sym (length-map t length)

suffix_parts : (n : ℕ) (t u : Key) (a b : List ℕ) → Wide n t × WholeReference t → Wide n u × WholeReference u
    → suffix_bytes t ++ a ≡ suffix_bytes u ++ b → (t ≡ u) × (a ≡ b)
unfolding suffix_bytes
suffix_parts n t u a b h g e =
    let p = halves (map length t.strings) (map length u.strings) _ _
    (equal_lengths t.strings u.strings (h.0 ∙ sym g.0)) (simp append_assoc at e) in
    let q = halves t.reference u.reference (flat t.strings ++ a) (flat u.strings ++ b) (h.1 ∙ sym g.1) p.1 in
    let r = strings_parts t.strings u.strings a b p.0 q.1 in
    (ap₂ (λ (s : Strings) (l : List ℕ). record { strings = s; reference = l }) r.0 q.0, r.1)

suffixes_parts : (n : ℕ) {ts us : List Key} → All (λ t. Wide n t × WholeReference t) ts → All (λ t. Wide n t × WholeReference t) us
    → flat (map suffix_bytes ts) ≡ flat (map suffix_bytes us) → ts ≡ us
unfolding flat
suffixes_parts n nil nil e = refl
suffixes_parts n nil (cons {x = u} {xs = us} g b) e =
    absurd (omega (arith, ap length e, length-append (suffix_bytes u) (flat (map suffix_bytes us)), length_suffix n u g.0 g.1))
suffixes_parts n (cons {x = t} {xs = ts} h a) nil e =
    absurd (omega (arith, ap length e, length-append (suffix_bytes t) (flat (map suffix_bytes ts)), length_suffix n t h.0 h.1))
suffixes_parts n (cons {x = t} {xs = ts} h a) (cons {x = u} {xs = us} g b) e =
    let r = suffix_parts n t u (flat (map suffix_bytes ts)) (flat (map suffix_bytes us)) h g e in
    ap₂ ◌∷◌ r.0 (suffixes_parts n a b r.1)

-- four bytes give every number back
four_parts : (m n : ℕ) → bytes_of 4 m ≡ bytes_of 4 n → m ≡ n
four_parts m n h = sym (number_bytes_of 3 m) ∙ ap number h ∙ number_bytes_of 3 n

-- the parts of a node
pub record Parts (k k' : ℕ) (s s' : Strings) (b b' m m' : List ℕ) : Type 0 where
  pub kind : k ≡ k'
  pub strings : s ≡ s'
  pub body : b ≡ b'
  pub more : m ≡ m'

pub node_parts : (k k' : ℕ) (s s' : Strings) (b b' m m' : List ℕ) → length s ≡ length s'
    → node_bytes k s b ++ m ≡ node_bytes k' s' b' ++ m'
    → Parts k k' s s' b b' m m'
unfolding node_bytes
node_parts k k' s s' b b' m m' l e =
    let i : k ≡ k' = cc in
    let rest : (map length s ++ (bytes_of 4 (length b) ++ (flat s ++ b))) ++ m
    ≡ (map length s' ++ (bytes_of 4 (length b') ++ (flat s' ++ b'))) ++ m' = cc in
    let p = halves (map length s) (map length s') (bytes_of 4 (length b) ++ (flat s ++ (b ++ m))) (bytes_of 4 (length b') ++ (flat s' ++ (b' ++ m')))
    (equal_lengths s s' l) (sym (regroup s b m) ∙ rest ∙ regroup s' b' m') in
    let q = halves (bytes_of 4 (length b)) (bytes_of 4 (length b')) (flat s ++ (b ++ m)) (flat s' ++ (b' ++ m'))
    (four_long (length b) ∙ sym (four_long (length b'))) p.1 in
    let r = strings_parts s s' (b ++ m) (b' ++ m') p.0 q.1 in
    let t = halves b b' m m' (four_parts (length b) (length b') q.0) r.1 in
    record { kind = i; strings = r.0; body = t.0; more = t.1 }
  where
    four_long : (n : ℕ) → length (bytes_of 4 n) ≡ 4
    four_long n = length_bytes_of 4 n

    regroup : (s : Strings) (b m : List ℕ)
        → (map length s ++ (bytes_of 4 (length b) ++ (flat s ++ b))) ++ m ≡ map length s ++ (bytes_of 4 (length b) ++ (flat s ++ (b ++ m)))
    regroup s b m = simp append_assoc

-- THE BYTES GIVE THE TRIE BACK
pub encode_injective : (n : ℕ) (f g : Forest) → Regular n f → Regular n g → encode f ≡ encode g → f ≡ g
unfolding Regular encode node_bytes
encode_injective n none none h w e = refl
encode_injective n none (leaf s ts more) h w e = absurd (let z : ◌≡◌ {A = ℕ} 0 1 = cc in omega arith)
encode_injective n none (inner d s children more) h w e = absurd (let z : ◌≡◌ {A = ℕ} 0 1 = cc in omega arith)
encode_injective n (leaf s ts more) none h w e = absurd (let z : ◌≡◌ {A = ℕ} 0 1 = cc in omega arith)
encode_injective n (leaf s ts more) (leaf s' ts' more') h w e =
    let p = node_parts 0 0 s s' (flat (map suffix_bytes ts)) (flat (map suffix_bytes ts')) (encode more) (encode more')
    (h.0 ∙ sym w.0) e in
    let q = suffixes_parts n h.1 w.1 p.body in
    let r = encode_injective n more more' h.2 w.2 p.more in
    rw (p.strings, q, r) refl
encode_injective n (leaf s ts more) (inner d s' children' more') h w e = absurd (let z : 0 ≡ suc d = cc in omega arith)
encode_injective n (inner d s children more) none h w e = absurd (let z : ◌≡◌ {A = ℕ} 0 1 = cc in omega arith)
encode_injective n (inner d s children more) (leaf s' ts' more') h w e = absurd (let z : suc d ≡ 0 = cc in omega arith)
encode_injective n (inner d s children more) (inner d' s' children' more') h w e =
    let p = node_parts (suc d) (suc d') s s' (encode children) (encode children') (encode more) (encode more') (h.0 ∙ sym w.0) e in
    let i : d ≡ d' = let z = p.kind in omega arith in
    let q = encode_injective n children children' h.1 w.1 p.body in
    let r = encode_injective n more more' h.2 w.2 p.more in
    rw (i, p.strings, q, r) refl
