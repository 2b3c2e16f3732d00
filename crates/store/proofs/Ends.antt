-- What the root of a trie says of its length, in a region with zeros behind it. Assumes nothing.
use mathlib.Core.Path.{◌≡◌, refl, sym, ap, subst, ◌∙◌}
use mathlib.Core.Logic.{◌⊎◌, inl, inr}
use Prim.Native.Nat.{ℕ, suc, ◌+◌, ◌-◌, ◌≤◌}
use mathlib.Core.List.{List, [], ◌∷◌, ◌++◌, append-nil, map}
use native.Mathlib.Omega.{arith}
use lib.ListN.{length, get_or, replicate, length-append, length-replicate}
use Rattle.buffer.specs.Lists.{All, cons, flat}
use Rattle.buffer.specs.Splice.{region}
use Rattle.buffer.specs.Numbers.{number}
use Rattle.trie_theory.specs.Forest.{Strings, Key, Forest, none, leaf, inner, tops}
use Rattle.trie_theory.specs.Strings.{at}
use Rattle.trie_theory.specs.Dimensions.{root}
use Rattle.trie_theory.specs.Sound.{Sound, Wide}
use Rattle.trie_theory.specs.Encode.{Regular, WholeReference, encode, node_bytes, suffix_bytes}
use Rattle.trie_theory.proofs.SoundLaws.{root_single}
use Rattle.trie_read.specs.Heads.{front}
use Rattle.trie_read.proofs.Node.{node_is, length_own, front_numbers}

-- the end and the length of the body that the code reads
abbrev pub body_at : List ℕ → ℕ
body_at t = number (region t 3 4)

abbrev pub ends : List ℕ → ℕ
ends t = 7 + get_or t 1 0 + get_or t 2 0 + body_at t

-- a root with a body that is not empty
pub record Root (f : Forest) (rest : List ℕ) : Type 0 where
  pub end : ends (encode f ++ rest) ≡ length (encode f)
  pub some : 1 ≤ body_at (encode f ++ rest)
  pub long : 7 ≤ length (encode f)

node_root : (kind : ℕ) (s : Strings) (body rest : List ℕ) → length s ≡ 2
    → (ends (node_bytes kind s body ++ rest) ≡ length (node_bytes kind s body)) × (body_at (node_bytes kind s body ++ rest) ≡ length body)
node_root kind s body rest w =
    let t = front kind s (length body) ++ (body ++ rest) in
    let n = front_numbers kind s body (body ++ rest) in
    let next : ends t ≡ 7 + length (at 0 s) + length (at 1 s) + length body = rw (n.value_is, n.path_is, n.body_is) refl in
    rw (length_own kind s body w, node_is kind s body rest w) (next, n.body_is)

some_suffixes : (ts : List Key) → 1 ≤ length ts → All (λ t. Wide 2 t × WholeReference t) ts → 1 ≤ length (flat (map suffix_bytes ts))
unfolding flat suffix_bytes
some_suffixes [] h a = absurd (omega arith)
some_suffixes (t ∷ ts) h (cons w a) =
    let n : length t.reference ≡ 20 = w.1 in
    rw (length-append, length-append, length-append) (omega arith)

some_nodes : (f : Forest) → 2 ≤ length (tops f) → 1 ≤ length (encode f)
unfolding tops encode node_bytes
some_nodes none h = absurd (omega arith)
some_nodes (leaf s ts more) h = omega arith
some_nodes (inner d s children more) h = omega arith

node_rooted : (f : Forest) (kind : ℕ) (s : Strings) (body rest : List ℕ) → length s ≡ 2 → 1 ≤ length body → encode f ≡ node_bytes kind s body ++ [] → Root f rest
node_rooted f kind s body rest w h e =
    let b : encode f ≡ node_bytes kind s body = e ∙ append-nil (node_bytes kind s body) in
    let r = node_root kind s body rest w in
    record { end = rw b r.0; some = rw b (omega (arith, r.1)); long = rw b (omega (arith, length_own kind s body w)) }

pub rooted : (f : Forest) (rest : List ℕ) → Sound 2 root f → Regular 2 f → (f ≡ none) ⊎ Root f rest
unfolding Sound Regular encode
rooted none rest s w = inl refl
rooted (leaf st ts more) rest s w =
    inr (node_rooted _ 0 st (flat (map suffix_bytes ts)) rest w.0 (some_suffixes ts s.1 w.1) (ap (λ (m : Forest). node_bytes 0 st (flat (map suffix_bytes ts)) ++ encode m) (root_single 2 st more s.0)))
rooted (inner d st children more) rest s w =
    inr (node_rooted _ (suc d) st (encode children) rest w.0 (some_nodes children s.1) (ap (λ (m : Forest). node_bytes (suc d) st (encode children) ++ encode m) (root_single 2 st more s.0)))

-- zeros have no root
seven_zeros : (n : ℕ) → body_at (replicate (suc (suc (suc (suc (suc (suc (suc n))))))) 0) ≡ 0
unfolding number
seven_zeros n = refl

pub zeros_body : (n : ℕ) → 7 ≤ n → body_at (replicate n 0) ≡ 0
zeros_body n h =
    let e : n ≡ suc (suc (suc (suc (suc (suc (suc (n - 7))))))) = omega arith in
    ap (λ (k : ℕ). body_at (replicate k 0)) e ∙ seven_zeros (n - 7)

-- ---- what the code returns, by what it has read

module _ (t : List ℕ) (f : Forest) (n : ℕ) (s : Sound 2 root f) (w : Regular 2 f) (e : t ≡ encode f ++ replicate n 0) where
  long : length t ≡ length (encode f) + n
  long = ap length e ∙ length-append (encode f) (replicate n 0) ∙ ap (λ (k : ℕ). length (encode f) + k) (length-replicate {A = ℕ} n 0)

  empty : f ≡ none → (length (encode f) ≡ 0) × (7 ≤ length t → body_at t ≡ 0)
  empty z =
      let none-bytes : encode f ≡ [] = ap encode z ∙ (unfold encode in refl) in
      let t-is : t ≡ replicate n 0 = e ∙ ap (λ (b : List ℕ). b ++ replicate n 0) none-bytes in
      (ap length none-bytes, λ h. ap body_at t-is ∙ zeros_body n (subst (λ (k : ℕ). 7 ≤ k) (ap length t-is ∙ length-replicate {A = ℕ} n 0) h))

  -- too short, or a body of no bytes
  pub no_root : (7 ≤ length t → body_at t ≡ 0) → 0 ≡ length (encode f)
  no_root h = go (rooted f (replicate n 0) s w)
    where
      go : (f ≡ none) ⊎ Root f (replicate n 0) → 0 ≡ length (encode f)
      go (inl z) = sym (empty z).0
      go (inr r) = absurd (omega (arith, long, r.long, h (omega (arith, long, r.long)), subst (λ (x : List ℕ). 1 ≤ body_at x) (sym e) r.some))

  -- a body of some bytes
  pub has_root : 7 ≤ length t → 1 ≤ body_at t → (ends t ≡ length (encode f)) × (length (encode f) ≤ length t)
  has_root l h = go (rooted f (replicate n 0) s w)
    where
      go : (f ≡ none) ⊎ Root f (replicate n 0) → (ends t ≡ length (encode f)) × (length (encode f) ≤ length t)
      go (inl z) = absurd (omega (arith, (empty z).1 l, h))
      go (inr r) = (ap ends e ∙ r.end, omega (arith, long))
