-- What an addition makes of the bytes around it: a changed body, then the length in front of it; a changed node among its siblings.
-- Assumes nothing.
use mathlib.Core.Path.{◌≡◌, refl, sym, ap, ◌∙◌}
use Prim.Native.Nat.{ℕ, ◌+◌, ◌-◌, ◌≤◌}
use mathlib.Core.List.{List, [], ◌∷◌, ◌++◌, append_assoc, append-nil, map}
use native.Mathlib.Omega.{arith}
use lib.ListN.{length, length-append}
use Rattle.buffer.specs.Lists.{flat}
use Rattle.buffer.specs.Splice.{splice, region}
use Rattle.buffer.specs.Numbers.{bytes_of}
use Rattle.buffer.proofs.Splice.{splice_from, splice_inside, region_add, length_region}
use Rattle.buffer.proofs.Lists.{map_append, flat_append}
use Rattle.buffer.proofs.Digits.{length_bytes_of}
use Rattle.trie_theory.specs.Forest.{Strings, Key, Forest, none, leaf, inner}
use Rattle.trie_theory.specs.Strings.{at}
use Rattle.trie_theory.specs.Encode.{Regular, node_bytes, suffix_bytes}
use Rattle.trie_theory.proofs.Encode.{halves}
use Rattle.trie_read.specs.Heads.{front}
use Rattle.trie_read.specs.Heads.{body_of}
use Rattle.trie_read.specs.Places.{top}
use Rattle.trie_read.specs.Kinds.{kind_of_byte}
use Rattle.trie_read.specs.declared.kind.Kind.TheVariants.{Leaf}
use Rattle.trie_read.proofs.KindBytes.{byte_inner}
use Rattle.trie_read.proofs.Node.{length_front}
use Rattle.trie_add.specs.Replaced.{Replaced}
use Rattle.trie_add.specs.Added.{kind_of, grown_body}
use Rattle.trie_add.proofs.Splitting.{own_is}

-- ---- stretches

-- what stands from o on, in two parts
pub stretch : (s : List ℕ) (o n : ℕ) (x y : List ℕ) → region s o n ≡ x ++ y → n ≡ length x + length y → o + n ≤ length s
    → (region s o (length x) ≡ x) × (region s (o + length x) (length y) ≡ y)
stretch s o n x y e m h =
    let l : length (region s o (length x)) ≡ length x = length_region s o (length x) (omega arith) in
    halves (region s o (length x)) x (region s (o + length x) (length y)) y l (sym (region_add s o (length x) (length y)) ∙ rw m at e)

-- ---- a stretch replaced, seen with what stands before and behind it

-- own between front and rest
pub widened : (s s' : List ℕ) (off stop used r p q : ℕ) (first own own' rest : List ℕ)
    → region s off (stop - off) ≡ first ++ (own ++ rest) → off ≤ stop → stop ≤ used → used + r ≤ length s
    → p ≡ off + length first → q ≡ p + length own → stop ≡ q + length rest
    → Replaced s p q used own' s' r → Replaced s off stop used (first ++ (own' ++ rest)) s' r
widened s s' off stop used r p q first own own' rest e h k fit ep eq es c =
    let n : stop - off ≡ length first + length (own ++ rest) = omega (arith, length-append own rest) in
    let a = stretch s off (stop - off) first (own ++ rest) e n (omega arith) in
    let m : length (own ++ rest) ≡ length own + length rest = length-append own rest in
    let b = stretch s (off + length first) (length (own ++ rest)) own rest a.1 m (omega arith) in
    let tail = region s stop (used - stop) in
    let lt : length tail ≡ used - stop = length_region s stop (used - stop) (omega arith) in
    let u : used - q ≡ length rest + (used - stop) = omega arith in
    let v : q + length rest ≡ stop = omega arith in
    let w : off + length first + length own ≡ q = omega arith in
    let behind : region s q (used - q) ≡ rest ++ tail = rw (u, region_add s q (length rest) (used - stop), v) (ap (λ (z : List ℕ). z ++ tail) (rw w at b.1)) in
    let d : p - off ≡ length first = omega arith in
    let y = own' ++ (rest ++ tail) in
    let ly = length-append own' (rest ++ tail) in
    let lr = length-append rest tail in
    record {
      is = c.is ∙ rw (behind, splice_from s off p y (omega arith) (omega (arith, ly, lr, lt, c.long)), d, a.0) (ap (splice s off) (simp append_assoc));
      long = omega (arith, c.long, length-append first (own' ++ rest), length-append own' rest);
    }

-- ---- the length in front of a body

-- the first three bytes of a front, and its strings
pub patched : (s s₁ s₂ : List ℕ) (node body next used kind m r : ℕ) (st : Strings) (grown : List ℕ)
    → region s node (body - node) ≡ front kind st m → node + 7 + length (at 0 st) + length (at 1 st) ≡ body → body ≤ next → next ≤ used → used + r ≤ length s
    → Replaced s body next used grown s₁ r → s₂ ≡ splice s₁ (node + 3) (bytes_of 4 (length grown))
    → Replaced s node next used (front kind st (length grown) ++ grown) s₂ r
unfolding front
patched s s₁ s₂ node body next used kind m r st grown e l h k fit c q =
    let three = kind ∷ length (at 0 st) ∷ length (at 1 st) ∷ [] in
    let strings = at 0 st ++ at 1 st in
    let tail = region s next (used - next) in
    let z = strings ++ (grown ++ tail) in
    let ls = length-append (at 0 st) (at 1 st) in
    let lz = length-append strings (grown ++ tail) in
    let lg = length-append grown tail in
    let lt : length tail ≡ used - next = length_region s next (used - next) (omega arith) in
    let before : splice s body (grown ++ tail) ≡ splice s node (three ++ (bytes_of 4 m ++ z)) =
    splice_from s node body (grown ++ tail) (omega arith) (omega (arith, lg, lt, c.long)) ∙ rw e (ap (splice s node) (simp append_assoc)) in
    let inside : splice (splice s node (three ++ (bytes_of 4 m ++ z))) (node + 3) (bytes_of 4 (length grown)) ≡ splice s node (three ++ (bytes_of 4 (length grown) ++ z)) =
    splice_inside s node three (bytes_of 4 m) (bytes_of 4 (length grown)) z (length_bytes_of 4 (length grown) ∙ sym (length_bytes_of 4 m)) (omega (arith, length_bytes_of 4 m, ls, lz, lg, lt, c.long)) in
    let together : three ++ (bytes_of 4 (length grown) ++ z) ≡ (front kind st (length grown) ++ grown) ++ tail = simp append_assoc in
    record {
      is = q ∙ ap (λ (t : List ℕ). splice t (node + 3) (bytes_of 4 (length grown))) (c.is ∙ before) ∙ inside ∙ ap (splice s node) together;
      long = omega (arith, c.long, ls, length_bytes_of 4 (length grown), length-append (bytes_of 4 (length grown)) strings, length-append (bytes_of 4 (length grown) ++ strings) grown);
    }

-- the node whose body has grown
pub body_grown : (s s₁ s₂ : List ℕ) (node body next used kind r : ℕ) (st : Strings) (grown : List ℕ) → length st ≡ 2
    → region s node (body - node) ≡ front kind st (next - body) → node ≤ body → body ≤ next → next ≤ used → used + r ≤ length s
    → Replaced s body next used grown s₁ r → s₂ ≡ splice s₁ (node + 3) (bytes_of 4 (next - body + r))
    → Replaced s node next used (node_bytes kind st grown) s₂ r
body_grown s s₁ s₂ node body next used kind r st grown w e a h k fit c q =
    let l : length grown ≡ next - body + r = omega (arith, c.long) in
    let n : length (region s node (body - node)) ≡ body - node = length_region s node (body - node) (omega arith) in
    let m : node + 7 + length (at 0 st) + length (at 1 st) ≡ body = omega (arith, n, ap length e, length_front kind st (next - body)) in
    rw (own_is kind st grown w) (patched s s₁ s₂ node body next used kind (next - body) r st grown e m h k fit c (rw l q))

-- ---- an addition at a leaf

-- a suffix more, last
pub suffixes_more : (ts : List Key) (y : Key) → flat (map suffix_bytes (ts ++ (y ∷ []))) ≡ flat (map suffix_bytes ts) ++ suffix_bytes y
unfolding flat
suffixes_more ts y =
    ap flat (map_append suffix_bytes ts (y ∷ [])) ∙ flat_append (map suffix_bytes ts) (suffix_bytes y ∷ []) ∙ ap (λ (w : List ℕ). flat (map suffix_bytes ts) ++ w) (append-nil (suffix_bytes y))

-- bytes inserted at the end of a body
pub appended : (s s₁ : List ℕ) (body next used r : ℕ) (old more : List ℕ) → region s body (next - body) ≡ old → body ≤ next → next ≤ used → used + r ≤ length s → r ≡ length more
    → s₁ ≡ splice s next (more ++ region s next (used - next)) → Replaced s body next used (old ++ more) s₁ r
appended s s₁ body next used r old more e h k fit m q =
    let tail = region s next (used - next) in
    let lt : length tail ≡ used - next = length_region s next (used - next) (omega arith) in
    let lo : length old ≡ next - body = sym (ap length e) ∙ length_region s body (next - body) (omega arith) in
    record {
      is = q ∙ splice_from s body next (more ++ tail) h (omega (arith, length-append more tail, lt)) ∙ rw e (ap (splice s body) (sym (append_assoc old more tail)));
      long = omega (arith, length-append old more, lo);
    }

pub leaf_grown : (s s₁ s₂ : List ℕ) (node body next used r : ℕ) (y : Key) (f : Forest) → Regular 2 f → Leaf ≡ kind_of_byte (kind_of f) → (f ≡ none → ⊥)
    → region s node (body - node) ≡ front (kind_of f) (top f) (next - body) → region s body (next - body) ≡ body_of f
    → node ≤ body → body ≤ next → next ≤ used → used + r ≤ length s → r ≡ length (suffix_bytes y)
    → s₁ ≡ splice s next (suffix_bytes y ++ region s next (used - next)) → s₂ ≡ splice s₁ (node + 3) (bytes_of 4 (next - body + r))
    → Replaced s node next used (node_bytes (kind_of f) (top f) (grown_body f y)) s₂ r
unfolding Regular kind_of top body_of grown_body
leaf_grown s s₁ s₂ node body next used r y none w z n e b a h k fit m p q = absurd (n refl)
leaf_grown s s₁ s₂ node body next used r y (leaf st ts more) w z n e b a h k fit m p q =
    body_grown s s₁ s₂ node body next used 0 r st _ w.0 e a h k fit
    (rw (suffixes_more ts y) (appended s s₁ body next used r (flat (map suffix_bytes ts)) (suffix_bytes y) b h k fit m p)) q
leaf_grown s s₁ s₂ node body next used r y (inner d st children more) w z n e b a h k fit m p q = absurd (byte_inner d (sym z))
