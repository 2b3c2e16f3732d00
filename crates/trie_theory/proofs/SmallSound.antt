-- An addition keeps a trie sound, whatever the sequence of its children, if no string of the new key is a proper beginning
-- of a held one.
use Prim.Native.Nat.{ℕ, suc, ◌≤◌}
use mathlib.Core.Path.{◌≡◌, refl, sym, ap, subst, ◌∙◌}
use mathlib.Core.Bool.{Bool, true, false, cond}
use mathlib.Core.List.{[], ◌∷◌, ◌++◌, map}
use native.Mathlib.Omega.{arith}
use lib.ListN.{length, length-append}
use lib.Dec.{ltb}
use borrow.Author.Tests.{ltb-true}
use Rattle.trie_theory.specs.Forest.{Strings, Key, Forest, none, leaf, inner, join, under, keys, tops}
use Rattle.buffer.specs.Lists.{All, nil, cons}
use Rattle.trie_theory.specs.Strings.{all_begin, commons, strip, remains, first}
use Rattle.trie_theory.specs.Dimensions.{Above, below, branching}
use Rattle.trie_theory.specs.SmallTrie.{meets, precedes, new_leaf, two, differing, split, added}
use Rattle.trie_theory.specs.Sound.{Starts, Wide, Node, Sound}
use Rattle.buffer.proofs.Lists.{all_append, all_left, all_right, all_unmap, all_imp, all_tested}
use Rattle.trie_theory.proofs.Prefix.{From, all_begin_prefixes, commons_left}
use Rattle.trie_theory.proofs.Strings.{length_strip, length_commons}
use Rattle.trie_theory.proofs.Branching.{branching_prefix, meets_false}
use Rattle.trie_theory.proofs.Keys.{keys_from}
use Rattle.trie_theory.proofs.Free.{Free, free_starts, free_left, free_below, lefts_differ, commons_starts, differing_starts}
use Rattle.trie_theory.proofs.SoundLaws.{top, top_starts, some_key}
use Rattle.trie_theory.proofs.SmallStep.{placed, placed_cases}

-- the strings of a node come first of its tries'
abbrev pub Fronts : (Strings → Forest → Forest) → Type 0
Fronts node = (s : Strings) (more : Forest) → tops (node s more) ≡ s ∷ tops more

-- what a node has in common with a key that has its branching byte has that byte
pub commons_branching : (above : Above) (s k : Strings) → Starts above s → Starts above k → meets above s k ≡ true
    → branching above (commons s k) ≡ branching above s
commons_branching above s k f g m = branching_prefix above (commons s k) s (commons_starts above s k f g m) (commons_left s k)

-- Q holds of the branching bytes of tries side by side
abbrev pub Each : (ℕ → Type 0) → Above → Forest → Type 0
Each Q above f = All (λ t. Q (branching above t)) (tops f)

-- THE BRANCHING BYTES after an addition are those before, and perhaps the key's
tops_placed : (Q : ℕ → Type 0) (above : Above) (node : Strings → Forest → Forest) → Fronts node
    → (s : Strings) (x : Key) (agreed more later : Forest)
    → Starts above s → Starts above x.strings → Q (branching above x.strings) → Q (branching above s) → Each Q above more
    → Each Q above agreed → Each Q above later → Each Q above (placed above node s x agreed more later)
unfolding tops new_leaf split
tops_placed Q above node own s x agreed more later fs fx qx qs qm qa ql =
    placed_cases (Each Q above) above node s x agreed more later
    (λ m g. qa)
    (λ m g. cons (subst Q (sym (commons_branching above s x.strings fs fx m)) qs) qm)
    (λ m g. cons qx (rw (own s more) (cons qs qm)))
    (λ m g. rw (own s later) (cons qs ql))

pub tops_added : (Q : ℕ → Type 0) (n : ℕ) (above : Above) (f : Forest) (x : Key) → Sound n above f → Starts above x.strings
    → Q (branching above x.strings) → Each Q above f → Each Q above (added above f x)
unfolding Sound tops added new_leaf
tops_added Q n above none x h fx q a = cons q nil
tops_added Q n above (leaf s ts more) x h fx q (cons b a) =
    tops_placed Q above (λ s' m. leaf s' ts m) (λ s' m. refl) s x (leaf s (ts ++ (remains s x ∷ [])) more) more (added above more x)
    h.0.starts fx q b a (cons b a) (tops_added Q n above more x h.3 fx q a)
tops_added Q n above (inner d s children more) x h fx q (cons b a) =
    tops_placed Q above (λ s' m. inner d s' children m) (λ s' m. refl) s x (inner d s (added (below d) children (remains s x)) more) more
    (added above more x)
    h.0.starts fx q b a (cons b a) (tops_added Q n above more x h.3 fx q a)

-- no sibling goes
width_placed : (above : Above) (node : Strings → Forest → Forest) → Fronts node
    → (s : Strings) (x : Key) (agreed more later : Forest)
    → suc (length (tops more)) ≤ length (tops agreed) → length (tops more) ≤ length (tops later)
    → suc (length (tops more)) ≤ length (tops (placed above node s x agreed more later))
unfolding tops new_leaf split
width_placed above node own s x agreed more later a l =
    placed_cases (λ g. suc (length (tops more)) ≤ length (tops g)) above node s x agreed more later
    (λ m g. a) (λ m g. omega arith) (λ m g. omega (arith, ap length (own s more))) (λ m g. omega (arith, l, ap length (own s later)))

width_added : (above : Above) (f : Forest) (x : Key) → length (tops f) ≤ length (tops (added above f x))
unfolding added tops new_leaf
width_added above none x = omega arith
width_added above (leaf s ts more) x =
    width_placed above (λ s' m. leaf s' ts m) (λ s' m. refl) s x (leaf s (ts ++ (remains s x ∷ [])) more) more (added above more x)
    (omega arith) (width_added above more x)
width_added above (inner d s children more) x =
    width_placed above (λ s' m. inner d s' children m) (λ s' m. refl) s x (inner d s (added (below d) children (remains s x)) more) more
    (added above more x)
    (omega arith) (width_added above more x)

-- what a key is below an inner node with which it agrees: free, and with the branching byte
pub below_free : (s : Strings) (children : Forest) (x : Key) → From s x → All (Free x) (keys s children)
    → All (Free (remains s x)) (keys [] children)
below_free s children x f a = all_unmap (under s) (λ y h. free_below s x y f h) (keys [] children) (subst (All (Free x)) (keys_from s children) a)

pub below_starts : (n d : ℕ) (children : Forest) (x : Key) → Sound n (below d) children → 2 ≤ length (tops children)
    → All (Free x) (keys [] children)
    → Starts (below d) x.strings
unfolding join
below_starts n d children x h w a =
    let y = some_key n (below d) [] children h (omega arith) a in
    free_starts d (top children) x y.0 y.1 y.2 (top_starts n (below d) children h (omega arith))

-- a byte below those of all tries is none of theirs
precedes_apart : (above : Above) (k : Strings) (f : Forest) → precedes above k f ≡ true
    → All (λ t. branching above k ≡ branching above t → ⊥) (tops f)
unfolding precedes
precedes_apart above k f a =
    all_imp (λ t l e. let m = ltb-true (branching above k) (branching above t) l in omega arith)
    (all_tested (λ t. ltb (branching above k) (branching above t)) (tops f) a)

module _ (n : ℕ) where
  new_leaf_sound : (above : Above) (x : Key) (more : Forest) → Wide n x → Starts above x.strings
      → All (λ t. branching above x.strings ≡ branching above t → ⊥) (tops more) → Sound n above more
      → Sound n above (new_leaf x more)
  unfolding Sound new_leaf remains
  new_leaf_sound above x more w f a h =
      (record { wide = w; starts = f; apart = a }, omega arith, cons (length_strip x.strings x.strings ∙ w) nil, h)

  -- a leaf or an inner node, of which only the strings and the siblings change
  module _ (node : Strings → Forest → Forest) (own : Fronts node)
      (make : (above : Above) (s : Strings) (more : Forest) → Node n above s more → Sound n above more → Sound n above (node s more)) where
    two_sound : (d : ℕ) (s : Strings) (x : Key) → length s ≡ n → Wide n x → Starts (below d) s → Starts (below d) x.strings
        → (first d s ≡ first d x.strings → ⊥) → (2 ≤ length (tops (two d node s x))) × Sound n (below d) (two d node s x)
    unfolding two Sound tops branching new_leaf
    two_sound d s x ls lx fs fx apart = go (ltb (first d x.strings) (first d s))
      where
        go : (w : Bool) → (2 ≤ length (tops (cond w (new_leaf x (node s none)) (node s (new_leaf x none)))))
            × Sound n (below d) (cond w (new_leaf x (node s none)) (node s (new_leaf x none)))
        go true = (
          omega (arith, ap length (own s none)),
          new_leaf_sound (below d) x (node s none) lx fx (rw (own s none) (cons (λ e. apart (sym e)) nil))
              (make (below d) s none (record { wide = ls; starts = fs; apart = nil }) tt),
        )
        go false = (
          omega (arith, ap length (own s (new_leaf x none))),
          make (below d) s (new_leaf x none) (record { wide = ls; starts = fs; apart = cons apart nil })
              (new_leaf_sound (below d) x none lx fx nil tt),
        )

    placed_sound : (above : Above) (s : Strings) (x : Key) (agreed more : Forest)
        → Node n above s more → Sound n above more → Wide n x → Starts above x.strings → (y : Key) × Free x y × From s y
        → (all_begin s x.strings ≡ true → Sound n above agreed) → Sound n above (added above more x)
        → Sound n above (placed above node s x agreed more (added above more x))
    unfolding split Sound remains
    placed_sound above s x agreed more h hm w fx (y, free, from) ha hl =
        let k = x.strings in
        let p = commons s k in
        let d = differing above (strip p s) in
        let e : length s ≡ length k = h.wide ∙ sym w in
        placed_cases (Sound n above) above node s x agreed more (added above more x)
        (λ m g. ha g)
        (λ m g.
        let fs : Starts (below d) (strip p s) = differing_starts above s k e h.starts g in
        let fk : Starts (below d) (strip p k) = free_left d s x y free from fs in
        let r = two_sound d (strip p s) (remains p x) (length_strip p s ∙ h.wide) (length_strip p k ∙ w) fs fk
        (lefts_differ d s k fs fk) in (
          record {
            wide = length_commons s k e ∙ w;
            starts = commons_starts above s k h.starts fx m;
            apart = rw (commons_branching above s k h.starts fx m) h.apart;
          },
          r.0,
          r.1,
          hm,
        ))
        (λ m a. new_leaf_sound above x (node s more) w fx (precedes_apart above k (node s more) a) (make above s more h hm))
        (λ m a. make above s (added above more x) (record {
          wide = h.wide;
          starts = h.starts;
          apart = tops_added (λ b. branching above s ≡ b → ⊥) n above more x hm fx (meets_false above s k m) h.apart;
        }) hl)

  -- SOUND TRIES STAY SOUND
  pub sound_added : (above : Above) (f : Forest) (x : Key) → Sound n above f → Wide n x → Starts above x.strings
      → All (Free x) (keys [] f)
      → Sound n above (added above f x)
  unfolding added Sound keys join tops remains
  sound_added above none x h w fx free = new_leaf_sound above x none w fx nil tt
  sound_added above (leaf s ts more) x h w fx free =
      placed_sound (λ s' m. leaf s' ts m) (λ s' m. refl) (λ above' s' m c r. (c, h.1, h.2, r))
      above s x (leaf s (ts ++ (remains s x ∷ [])) more) more h.0 h.3 w fx (some_key n above [] (leaf s ts more) h (omega arith) free)
      (λ g. (
        h.0,
        omega (arith, length-append ts (remains s x ∷ []), h.1),
        all_append h.2 (cons (length_strip s x.strings ∙ w) nil),
        h.3,
      ))
      (sound_added above more x h.3 w fx (all_right (map (under s) ts) (keys [] more) free))
  sound_added above (inner d s children more) x h w fx free =
      placed_sound (λ s' m. inner d s' children m) (λ s' m. refl) (λ above' s' m c r. (c, h.1, h.2, r))
      above s x (inner d s (added (below d) children (remains s x)) more) more h.0 h.3 w fx
      (some_key n above [] (inner d s children more) h (omega arith) free)
      (λ g. let f = below_free s children x (all_begin_prefixes s x.strings g) (all_left (keys s children) (keys [] more) free) in (
        h.0,
        omega (arith, h.1, width_added (below d) children (remains s x)),
        sound_added (below d) children (remains s x) h.2 (length_strip s x.strings ∙ w)
            (below_starts n d children (remains s x) h.2 h.1 f) f,
        h.3,
      ))
      (sound_added above more x h.3 w fx (all_right (keys s children) (keys [] more) free))
