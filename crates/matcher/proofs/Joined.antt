-- Labels and their bytes: labels put together again, and the labels of bytes that begin others. Assumes nothing.
use mathlib.Core.Path.{◌≡◌, refl, sym, ap, ap₂, subst, ◌∙◌}
use mathlib.Core.List.{List, [], ◌∷◌, ◌++◌, append_assoc, append-nil}
use mathlib.Core.Bool.{Bool, true, false, not, cond}
use Prim.Native.Nat.{ℕ}
use native.Mathlib.Omega.{arith}
use lib.Dec.{eqb}
use borrow.Author.Tests.{eq-eqb, ne_eqb, eqb-true}
use Rattle.buffer.specs.Lists.{none, all}
use Rattle.matcher.specs.Bytes.{slash, end_byte, label_byte}
use Rattle.glob.specs.Labels.{Begun}
use Rattle.matcher.specs.Labels.{up_to_slash, labels_of}
use Rattle.matcher.specs.Form.{path_label, formed_path}
use Rattle.buffer.proofs.Tests.{not_both, and_left, and_right}
use Rattle.matcher.proofs.Goes.{Ext}

-- the bytes of labels
pub joined : List (List ℕ) → List ℕ
joined [] = []
joined (l ∷ ls) = slash ∷ (l ++ joined ls)

join_of : (s : List ℕ) → up_to_slash s ++ joined (labels_of s) ≡ s
unfolding joined
join_of [] = refl
join_of (c ∷ s) = go (eqb c slash) refl (join_of s)
  where
    go : (b : Bool) → eqb c slash ≡ b → up_to_slash s ++ joined (labels_of s) ≡ s → cond b [] (c ∷ up_to_slash s) ++ joined (cond b (up_to_slash s ∷ labels_of s) (labels_of s)) ≡ c ∷ s
    go true q ih = ap₂ ◌∷◌ (sym (eqb-true c slash q)) ih
    go false q ih = ap (λ (l : List ℕ). c ∷ l) ih

-- a list that begins with `/`, or is empty, is its labels
pub join_begun : (s : List ℕ) → Begun s → joined (labels_of s) ≡ s
join_begun [] b = unfold joined in refl
join_begun (c ∷ s) b = ap (λ (l : List ℕ). l ++ joined (labels_of (c ∷ s))) (sym up) ∙ join_of (c ∷ s)
  where
    up : up_to_slash (c ∷ s) ≡ []
    up = rw (eq-eqb c slash (b (λ z. absurd (omega arith))))

pub byte_not : (c : ℕ) → label_byte c ≡ true → (c ≡ slash → ⊥) × (c ≡ end_byte → ⊥)
unfolding label_byte
byte_not c e = ((λ z. not_both (rw z at e) refl), (λ z. not_both (rw z at e) refl))

-- labels of label_byte bytes come back
module _ (t : List ℕ) (b : Begun t) where
  up_append : (l : List ℕ) → all label_byte l ≡ true → up_to_slash (l ++ t) ≡ l
  up_append [] e = go t b
    where
      go : (u : List ℕ) → Begun u → up_to_slash u ≡ []
      go [] b = refl
      go (c ∷ u) b = rw (eq-eqb c slash (b (λ z. absurd (omega arith))))
  up_append (x ∷ l) e = rw (ne_eqb x slash (byte_not x (and_left (label_byte x) (all label_byte l) e)).0) (ap (λ (m : List ℕ). x ∷ m) (up_append l (and_right (label_byte x) (all label_byte l) e)))

  labels_append : (l : List ℕ) → all label_byte l ≡ true → labels_of (l ++ t) ≡ labels_of t
  labels_append [] e = refl
  labels_append (x ∷ l) e = rw (ne_eqb x slash (byte_not x (and_left (label_byte x) (all label_byte l) e)).0) (labels_append l (and_right (label_byte x) (all label_byte l) e))

joined_begun : (ls : List (List ℕ)) → Begun (joined ls)
unfolding joined
joined_begun [] = λ f. absurd (f refl)
joined_begun (l ∷ ls) = λ f. refl

pub labels_of_join : (ls : List (List ℕ)) → all path_label ls ≡ true → labels_of (joined ls) ≡ ls
unfolding joined
labels_of_join [] e = refl
labels_of_join (l ∷ ls) e =
    let h : all label_byte l ≡ true = and_right (not (none l)) (all label_byte l) (and_left (path_label l) (all path_label ls) e) in
    ap₂ ◌∷◌ (up_append (joined ls) (joined_begun ls) l h) (labels_append (joined ls) (joined_begun ls) l h ∙ labels_of_join ls (and_right (path_label l) (all path_label ls) e))

pub formed_join : (ls : List (List ℕ)) → none ls ≡ false → all path_label ls ≡ true → formed_path (joined ls) ≡ true
unfolding joined
formed_join [] n e = not_both refl n
formed_join (l ∷ ls) n e = subst (λ (m : List (List ℕ)). all path_label m ≡ true) (sym (labels_of_join (l ∷ ls) e)) e

-- labels that go on from others, as bytes
pub ext_join : (ks ls : List (List ℕ)) → Ext ks ls → (more : List ℕ) × (joined ks ++ more ≡ joined ls)
unfolding joined
ext_join [] ls x = (joined ls, refl)
ext_join (k ∷ ks) [] x = absurd x
ext_join (k ∷ []) (l ∷ ls) x = (x.0 ++ joined ls, ap (λ (u : List ℕ). slash ∷ u) (rw (append-nil k, ← append_assoc k x.0 (joined ls), x.1)))
ext_join (k ∷ j ∷ ks) (l ∷ ls) x = let g = ext_join (j ∷ ks) ls x.1 in (g.0, ap (λ (u : List ℕ). slash ∷ u) (append_assoc k (joined (j ∷ ks)) g.0 ∙ ap₂ ◌++◌ x.0 g.1))

-- the labels of a list, and of a list that it begins: u, L are what stands up to the first `/` and the labels, U, N those of the longer list, v what stands up to the first `/` of the rest
abbrev Joint : List (List ℕ) → List ℕ → List ℕ → List ℕ → List (List ℕ) → Type 0
Joint [] u v U N = U ≡ u ++ v
Joint (k ∷ ks) u v U N = (U ≡ u) × Ext (k ∷ ks) N

joint_step : (b : Bool) (L : List (List ℕ)) (u v U : List ℕ) (N : List (List ℕ)) (c : ℕ) → Joint L u v U N → Joint (cond b (u ∷ L) L) (cond b [] (c ∷ u)) v (cond b [] (c ∷ U)) (cond b (U ∷ N) N)
joint_step true [] u v U N c j = (refl, (v, sym j))
joint_step true (k ∷ ks) u v U N c j = (refl, (sym j.0, j.1))
joint_step false [] u v U N c j = ap (λ (l : List ℕ). c ∷ l) j
joint_step false (k ∷ ks) u v U N c j = (ap (λ (l : List ℕ). c ∷ l) j.0, j.1)

joint : (s m : List ℕ) → Joint (labels_of s) (up_to_slash s) (up_to_slash m) (up_to_slash (s ++ m)) (labels_of (s ++ m))
joint [] m = refl
joint (c ∷ s) m = joint_step (eqb c slash) (labels_of s) (up_to_slash s) (up_to_slash m) (up_to_slash (s ++ m)) (labels_of (s ++ m)) c (joint s m)

joint_ext : (L : List (List ℕ)) (u v U : List ℕ) (N : List (List ℕ)) → Joint L u v U N → Ext L N
joint_ext [] u v U N j = tt
joint_ext (k ∷ ks) u v U N j = j.1

pub prefix_ext : (s m t : List ℕ) → s ++ m ≡ t → Ext (labels_of s) (labels_of t)
prefix_ext s m t e = subst (λ (u : List ℕ). Ext (labels_of s) (labels_of u)) e (joint_ext (labels_of s) (up_to_slash s) (up_to_slash m) (up_to_slash (s ++ m)) (labels_of (s ++ m)) (joint s m))
