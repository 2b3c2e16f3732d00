-- The keys and the visits that bytes have, taken apart: those of the first suffix or node, and those behind it. Assumes nothing.
use mathlib.Core.Path.{◌≡◌, refl, sym, ap, ap₂, ◌∙◌}
use mathlib.Core.Bool.{Bool, true, false}
use mathlib.Core.Logic.{⊎_elim}
use Prim.Native.Nat.{ℕ, zero, suc, ◌+◌, ◌-◌, ◌≤◌}
use mathlib.Core.List.{List, [], ◌∷◌, ◌++◌, map}
use native.Mathlib.Omega.{arith}
use lib.ListN.{length, take, length-append, length-map}
use lib.Seq.{length-take-le}
use borrow.Author.Tests.{le-leb}
use Rattle.std.specs.Prelude.{Option, Some, None}
use Rattle.std.specs.Option.{option_map}
use Rattle.buffer.specs.Lists.{All, pick}
use Rattle.buffer.proofs.Lists.{no_items, pick_append, map_append}
use Rattle.buffer.specs.Splice.{region}
use Rattle.buffer.proofs.Splice.{length_region}
use Rattle.buffer.proofs.Tests.{not-true, not_both, and_both}
use Rattle.rows.specs.Sizes.{value_size, path_at, node_limit}
use Rattle.entries.specs.Slots.{slot_size}
use Rattle.trie_theory.specs.Forest.{Strings, Key, Forest, none, leaf, inner, join, under, keys}
use Rattle.trie_theory.specs.Strings.{at}
use Rattle.trie_theory.specs.Size.{height}
use Rattle.trie_theory.specs.Encode.{Regular, encode}
use Rattle.trie_read.specs.Shape.{Fixed}
use Rattle.trie_read.specs.Kinds.{byte_of_kind, kind_of_byte, number_of}
use Rattle.trie_read.specs.Heads.{Head, head_of, head_in}
use Rattle.trie_read.specs.Suffixes.{suffixes_bytes, tail_of, tail_in}
use Rattle.trie_read.specs.declared.head.Node.{Node}
use Rattle.trie_read.specs.declared.suffix.Suffix.{Suffix}
use Rattle.trie_read.specs.declared.kind.Dimension.{Dimension}
use Rattle.trie_read.specs.declared.kind.Kind.{Kind}
use Rattle.trie_read.specs.declared.kind.Kind.TheVariants.{Leaf, Inner}
use Rattle.trie_read.proofs.KindBytes.{byte_back}
use Rattle.trie_read.proofs.Node.{leaf_view, inner_view, head_end, head_is, kind?}
use Rattle.trie_read.proofs.SuffixParts.{tail_end, tail_at}
pub use Rattle.trie_read.proofs.Among.{seen_key}
use Rattle.gather.specs.KeySlots.{ended_limit, has_slot, has_room, known, suffix_key}
use Rattle.gather.specs.Walks.{SuffixKeys}
use Rattle.gather.specs.Visits.{Visit, visit, visits, node_of, SuffixVisits, TrieVisits}
use Rattle.gather.proofs.Filling.{slotted}
use Rattle.gather.proofs.Putting.{Two}

pub pick_one : {A : Type 0} (t : A → Bool) (x : A) → t x ≡ true → pick t (x ∷ []) ≡ x ∷ []
unfolding pick
pick_one t x e = rw e

pub pick_not : {A : Type 0} (t : A → Bool) (x : A) → t x ≡ false → pick t (x ∷ []) ≡ []
unfolding pick
pick_not t x e = rw e

-- ---- suffixes

none_picked : (k : Strings) (ts : List Key) → ts ≡ [] → pick has_slot (map (under k) ts) ≡ []
unfolding pick
none_picked k ts e = rw e

suffix_read : (r : Option Suffix) (ts : List Key) (x : Suffix) → option_map tail_in r ≡ tail_of ts → r ≡ Some x → Some (tail_in x) ≡ tail_of ts
suffix_read r ts x e q = rw q at e

module _ {k : Strings} {t : List ℕ} {r : Option Suffix} (is : (us : List Key) → All Fixed us → t ≡ suffixes_bytes us → option_map tail_in r ≡ tail_of us) where
  pub suffix_end : r ≡ None → (ks : List Key) → SuffixKeys k t ks → ks ≡ []
  suffix_end e ks s = s.is ∙ none_picked k s.suffixes (tail_end s.suffixes (rw e at (is s.suffixes s.fixed s.bytes)))

  pub suffix_split : (x : Suffix) → r ≡ Some x → (ks : List Key) → SuffixKeys k t ks
      → Two (λ xs. xs ≡ pick has_slot (suffix_key k x.value.now x.path.now x.reference.now ∷ [])) (SuffixKeys k x.rest.now) ks
  suffix_split x e ks s =
      let v = tail_at s.suffixes (tail_in x) s.fixed (suffix_read r s.suffixes x (is s.suffixes s.fixed s.bytes) e) in
      record {
        first = pick has_slot (suffix_key k x.value.now x.path.now x.reference.now ∷ []);
        second = pick has_slot (map (under k) v.others);
        one = refl;
        other = record { suffixes = v.others; fixed = v.fixed; bytes = v.rest_is; is = refl };
        is =
            s.is
            ∙ ap (λ (us : List Key). pick has_slot (map (under k) us)) v.is
            ∙ pick_append has_slot (under k v.t ∷ []) (map (under k) v.others)
            ∙ ap (λ (y : Key). pick has_slot (under k y ∷ []) ++ pick has_slot (map (under k) v.others)) (sym (seen_key v));
      }

  module _ {n : ℕ} {way : List ℕ} where
    pub visits_end : r ≡ None → (vs : List Visit) → SuffixVisits n way k t vs → vs ≡ []
    visits_end h vs s = s.is ∙ ap (map (visit n way)) (suffix_end h s.keys s.has)

    pub visits_split : (x : Suffix) → r ≡ Some x → (vs : List Visit) → SuffixVisits n way k t vs
        → Two (λ xs. xs ≡ map (visit n way) (pick has_slot (suffix_key k x.value.now x.path.now x.reference.now ∷ []))) (SuffixVisits n way k x.rest.now) vs
    visits_split x e vs s =
        let w = suffix_split x e s.keys s.has in
        record {
          first = map (visit n way) w.first;
          second = map (visit n way) w.second;
          one = ap (map (visit n way)) w.one;
          other = record { keys = w.second; has = w.other; is = refl };
          is = s.is ∙ ap (map (visit n way)) w.is ∙ map_append (visit n way) w.first w.second;
        }

-- ---- nodes

node_read : (r : Option Node) (f : Forest) (x : Node) → option_map head_in r ≡ head_of f → r ≡ Some x → Some (head_in x) ≡ head_of f
node_read r f x e q = rw q at e

kind_told : (h : Head) (d : ℕ) (s : Strings) (children more : Forest) → Some h ≡ head_of (inner d s children more) → byte_of_kind h.kind ≡ suc d
unfolding head_of
kind_told h d s children more e = ap (λ (x : Head). byte_of_kind x.kind) (head_is h (suc d) s _ _ e) ∙ byte_back (suc d)

none_below : (n : ℕ) (way : List ℕ) (k : Strings) (f : Forest) → f ≡ none → visits n way k f ≡ []
unfolding visits
none_below n way k f e = rw e

low_below : (n : ℕ) (way : List ℕ) (k : Strings) (f : Forest) → height f ≤ 0 → visits n way k f ≡ []
unfolding height visits
low_below n way k none h = refl
low_below n way k (leaf s ts more) h = absurd (omega arith)
low_below n way k (inner d s children more) h = absurd (omega arith)

-- where no node is left to enter
pub low_visits : {n : ℕ} {way : List ℕ} {k : Strings} {t : List ℕ} → n ≡ node_limit → (vs : List Visit) → TrieVisits n way k t vs → vs ≡ []
low_visits {n = n} {way} {k} e vs s = s.is ∙ low_below n way k s.tries (omega (arith, s.high))

leaf_below : (n kind : ℕ) (way : List ℕ) (k s : Strings) (ts : List Key) (more : Forest) → kind ≡ 0
    → visits n way k (leaf s ts more) ≡ map (visit (n + 1) (way ++ node_of (join k s) kind)) (pick has_slot (map (under (join k s)) ts)) ++ visits n way k more
unfolding visits
leaf_below n kind way k s ts more e = rw e

inner_below : (n kind : ℕ) (way : List ℕ) (k s : Strings) (d : ℕ) (children more : Forest) → kind ≡ suc d
    → visits n way k (inner d s children more) ≡ visits (n + 1) (way ++ node_of (join k s) kind) (join k s) children ++ visits n way k more
unfolding visits
inner_below n kind way k s d children more e = rw e

leaf_less : (n : ℕ) (s : Strings) (ts : List Key) (more : Forest) → height (leaf s ts more) + n ≤ node_limit → height more + n ≤ node_limit
unfolding height
leaf_less n s ts more h = omega arith

inner_less : (n d : ℕ) (s : Strings) (children more : Forest) → height (inner d s children more) + n ≤ node_limit
    → (height children + (n + 1) ≤ node_limit) × (height more + n ≤ node_limit)
unfolding height
inner_less n d s children more h = (omega arith, omega arith)

-- the visits of the body of a node of a kind
abbrev pub BodyVisits : Kind → ℕ → List ℕ → Strings → List ℕ → List Visit → Type 0
BodyVisits Leaf n way k t vs = SuffixVisits n way k t vs
BodyVisits (Inner d) n way k t vs = TrieVisits n way k t vs

pub body_leaf : (kind : Kind) (n : ℕ) (way : List ℕ) (k : Strings) (t : List ℕ) (vs : List Visit) → kind ≡ Leaf → SuffixVisits n way k t vs → BodyVisits kind n way k t vs
body_leaf Leaf n way k t vs e s = s
body_leaf (Inner d) n way k t vs e s = absurd cc

pub body_inner : (kind : Kind) (d : Dimension) (n : ℕ) (way : List ℕ) (k : Strings) (t : List ℕ) (vs : List Visit) → kind ≡ Inner d → TrieVisits n way k t vs → BodyVisits kind n way k t vs
body_inner Leaf d n way k t vs e s = let z : Inner d ≡ Leaf = sym e in absurd cc
body_inner (Inner b) d n way k t vs e s = s

abbrev pub node_strings : Node → Strings
node_strings x = x.value.now ∷ x.path.now ∷ []

-- in two parts: those below the node x, and those behind it
abbrev pub NodeParts : ℕ → List ℕ → Strings → Node → List Visit → Type 0
NodeParts n way k x =
    Two (BodyVisits (kind_of_byte x.byte) (n + 1) (way ++ node_of (join k (node_strings x)) (byte_of_kind (kind_of_byte x.byte))) (join k (node_strings x)) x.body.now) (TrieVisits n way k x.rest.now)

module _ {n : ℕ} {way : List ℕ} {k : Strings} {t : List ℕ} {r : Option Node} (is : (f : Forest) → Regular 2 f → t ≡ encode f → option_map head_in r ≡ head_of f) where
  pub below_end : r ≡ None → (vs : List Visit) → TrieVisits n way k t vs → vs ≡ []
  below_end h vs s = s.is ∙ none_below n way k s.tries (head_end s.tries (rw h at (is s.tries s.regular s.bytes)))

  module _ (x : Node) (e : r ≡ Some x) where
    leaf_parts : (vs : List Visit) → TrieVisits n way k t vs → (kind_of_byte x.byte) ≡ Leaf → NodeParts n way k x vs
    leaf_parts vs s z =
        let strings = node_strings x in
        let w = leaf_view (head_in x) s.tries s.regular (node_read r s.tries x (is s.tries s.regular s.bytes) e) z in
        let own = pick has_slot (map (under (join k strings)) w.suffixes) in
        let at_leaf : SuffixVisits (n + 1) (way ++ node_of (join k strings) (byte_of_kind (kind_of_byte x.byte))) (join k strings) x.body.now (map (visit (n + 1) (way ++ node_of (join k strings) (byte_of_kind (kind_of_byte x.byte)))) own) =
        record { keys = own; has = record { suffixes = w.suffixes; fixed = w.fixed; bytes = w.body_is; is = refl }; is = refl } in
        record {
          first = map (visit (n + 1) (way ++ node_of (join k strings) (byte_of_kind (kind_of_byte x.byte)))) own;
          second = visits n way k w.more;
          one = body_leaf (kind_of_byte x.byte) _ _ _ _ _ z at_leaf;
          other = record { tries = w.more; regular = w.shaped; high = leaf_less n w.strings w.suffixes w.more (rw w.is at s.high); bytes = w.rest_is; is = refl };
          is = s.is ∙ ap (visits n way k) w.is ∙ ap (λ (l : Strings). visits n way k (leaf l w.suffixes w.more)) (sym w.strings_are) ∙ leaf_below n (byte_of_kind (kind_of_byte x.byte)) way k strings w.suffixes w.more (ap byte_of_kind z);
        }

    inner_parts : (vs : List Visit) → TrieVisits n way k t vs → (d : Dimension) → (kind_of_byte x.byte) ≡ Inner d → NodeParts n way k x vs
    inner_parts vs s d z =
        let told = node_read r s.tries x (is s.tries s.regular s.bytes) e in
        let strings = node_strings x in
        let w = inner_view (head_in x) s.tries d s.regular told z in
        let h = inner_less n (number_of d) w.strings w.children w.more (rw w.is at s.high) in
        let kind : byte_of_kind (kind_of_byte x.byte) ≡ suc (number_of d) = kind_told (head_in x) (number_of d) w.strings w.children w.more (told ∙ ap head_of w.is) in
        let inside : TrieVisits (n + 1) (way ++ node_of (join k strings) (byte_of_kind (kind_of_byte x.byte))) (join k strings) x.body.now (visits (n + 1) (way ++ node_of (join k strings) (byte_of_kind (kind_of_byte x.byte))) (join k strings) w.children) =
        record { tries = w.children; regular = w.lower; high = h.0; bytes = w.body_is; is = refl } in
        record {
          first = visits (n + 1) (way ++ node_of (join k strings) (byte_of_kind (kind_of_byte x.byte))) (join k strings) w.children;
          second = visits n way k w.more;
          one = body_inner (kind_of_byte x.byte) d _ _ _ _ _ z inside;
          other = record { tries = w.more; regular = w.shaped; high = h.1; bytes = w.rest_is; is = refl };
          is = s.is ∙ ap (visits n way k) w.is ∙ ap (λ (l : Strings). visits n way k (inner (number_of d) l w.children w.more)) (sym w.strings_are) ∙ inner_below n (byte_of_kind (kind_of_byte x.byte)) way k strings (number_of d) w.children w.more kind;
        }

    pub below_split : (vs : List Visit) → TrieVisits n way k t vs → NodeParts n way k x vs
    below_split vs s = ⊎_elim (leaf_parts vs s) (λ (z : (d : Dimension) × ((kind_of_byte x.byte) ≡ Inner d)). inner_parts vs s z.0 z.1) (kind? (kind_of_byte x.byte))

-- ---- keys

none_keys : (k : Strings) (f : Forest) → f ≡ none → pick has_slot (keys k f) ≡ []
unfolding pick keys
none_keys k f e = rw e

leaf_keys : (k s : Strings) (ts : List Key) (more : Forest) → pick has_slot (keys k (leaf s ts more)) ≡ pick has_slot (map (under (join k s)) ts) ++ pick has_slot (keys k more)
unfolding keys
leaf_keys k s ts more = pick_append has_slot (map (under (join k s)) ts) (keys k more)

inner_keys : (k s : Strings) (d : ℕ) (children more : Forest) → pick has_slot (keys k (inner d s children more)) ≡ pick has_slot (keys (join k s) children) ++ pick has_slot (keys k more)
unfolding keys
inner_keys k s d children more = pick_append has_slot (keys (join k s) children) (keys k more)

pub leaf_high : (depth : ℕ) (s : Strings) (ts : List Key) (more : Forest) → height (leaf s ts more) ≤ depth → height more ≤ depth
unfolding height
leaf_high depth s ts more h = omega arith

pub inner_high : (depth d : ℕ) (s : Strings) (children more : Forest) → height (inner d s children more) ≤ depth → (height children ≤ depth - 1) × (height more ≤ depth)
unfolding height
inner_high depth d s children more h = (omega arith, omega arith)

-- ---- a key that is too long

-- in some dimension there are more bytes than a slot has room for
abbrev pub Long : Strings → Type 0
Long k = length (at 0 k) ≤ value_size → length (at 1 k) ≤ ended_limit → ⊥

pub join_longer : (i : ℕ) (k s : Strings) → length (at i k) ≤ length (at i (join k s))
unfolding join
join_longer i [] s = omega arith
join_longer i (a ∷ k) [] = omega arith
join_longer zero (a ∷ k) (b ∷ s) = omega (arith, length-append a b)
join_longer (suc i) (a ∷ k) (b ∷ s) = join_longer i k s

long_join : (k s : Strings) → Long k → Long (join k s)
long_join k s h a b = h (omega (arith, join_longer 0 k s)) (omega (arith, join_longer 1 k s))

long_under : (k : Strings) (x : Key) → Long k → has_slot (under k x) ≡ false
unfolding under
long_under k x h =
    not-true (has_slot (under k x)) (λ e. let w = slotted (under k x) e in
    long_join k x.strings h (omega (arith, w.value)) w.short)

long_suffixes : (k : Strings) (ts : List Key) → Long k → pick has_slot (map (under k) ts) ≡ []
unfolding pick
long_suffixes k [] h = refl
long_suffixes k (t ∷ ts) h = rw (long_under k t h) (long_suffixes k ts h)

long_keys : (k : Strings) (f : Forest) → Long k → pick has_slot (keys k f) ≡ []
long_keys k none h = none_keys k none refl
long_keys k (leaf s ts more) h = leaf_keys k s ts more ∙ ap₂ ◌++◌ (long_suffixes (join k s) ts (long_join k s h)) (long_keys k more h)
long_keys k (inner d s children more) h = inner_keys k s d children more ∙ ap₂ ◌++◌ (long_keys (join k s) children (long_join k s h)) (long_keys k more h)

keys_visited : (n : ℕ) (way : List ℕ) (xs : List Key) → map (λ (x : Visit). x.key) (map (visit n way) xs) ≡ xs
keys_visited n way [] = refl
keys_visited n way (x ∷ xs) = ap (λ (l : List Key). x ∷ l) (keys_visited n way xs)

-- a walk visits the keys that have a slot
pub visits_keys : (n : ℕ) (way : List ℕ) (k : Strings) (f : Forest) → map (λ (x : Visit). x.key) (visits n way k f) ≡ pick has_slot (keys k f)
unfolding visits keys pick
visits_keys n way k none = refl
visits_keys n way k (leaf s ts more) =
    let own = pick has_slot (map (under (join k s)) ts) in
    map_append (λ (x : Visit). x.key) (map (visit (n + 1) (way ++ node_of (join k s) 0)) own) (visits n way k more)
    ∙ ap₂ ◌++◌ (keys_visited (n + 1) (way ++ node_of (join k s) 0) own) (visits_keys n way k more)
    ∙ sym (leaf_keys k s ts more)
visits_keys n way k (inner d s children more) =
    map_append (λ (x : Visit). x.key) (visits (n + 1) (way ++ node_of (join k s) (suc d)) (join k s) children) (visits n way k more)
    ∙ ap₂ ◌++◌ (visits_keys (n + 1) (way ++ node_of (join k s) (suc d)) (join k s) children) (visits_keys n way k more)
    ∙ sym (inner_keys k s d children more)

-- no key behind strings that are too long has a slot
no_visits : (vs : List Visit) → map (λ (x : Visit). x.key) vs ≡ [] → vs ≡ []
no_visits vs e = no_items vs (sym (length-map vs (λ (x : Visit). x.key)) ∙ ap length e)

pub long_visits : (kind : Kind) (n : ℕ) (way : List ℕ) (k : Strings) (t : List ℕ) → Long k → (vs : List Visit) → BodyVisits kind n way k t vs → vs ≡ []
long_visits Leaf n way k t h vs s = s.is ∙ ap (map (visit n way)) (s.has.is ∙ long_suffixes k s.has.suffixes h)
long_visits (Inner d) n way k t h vs s = s.is ∙ no_visits (visits n way k s.tries) (visits_keys n way k s.tries ∙ long_keys k s.tries h)

-- known bytes and strings that have no room behind them
pub long_known : (k a b : List ℕ) (v p : ℕ) → length k ≡ slot_size → v ≤ value_size → p ≤ ended_limit
    → has_room v p a b ≡ false → Long (join (known v p k) (a ∷ b ∷ []))
unfolding join known
long_known k a b v p lk lv lp e h g =
    let value : length (take v k ++ a) ≡ v + length a = omega (arith, length-append (take v k) a, length-take-le v k (omega arith)) in
    let path : length (region k path_at p ++ b) ≡ p + length b = omega (arith, length-append (region k path_at p) b, length_region k path_at p (omega arith)) in
    not_both (and_both (le-leb (v + length a) value_size (omega arith)) (le-leb (p + length b) ended_limit (omega arith))) e

-- ---- the root: nothing is known

pub blank : (s : Strings) → length s ≡ 2 → join ([] ∷ [] ∷ []) s ≡ s
unfolding join
blank [] h = absurd (omega arith)
blank (a ∷ []) h = absurd (omega arith)
blank (a ∷ b ∷ []) h = refl
blank (a ∷ b ∷ c ∷ s) h = absurd (omega arith)

pub keys_root : (f : Forest) → Regular 2 f → keys ([] ∷ [] ∷ []) f ≡ keys [] f
unfolding keys Regular join
keys_root none h = refl
keys_root (leaf s ts more) h = ap₂ ◌++◌ (ap (λ (l : Strings). map (under l) ts) (blank s h.0)) (keys_root more h.2)
keys_root (inner d s children more) h = ap₂ ◌++◌ (ap (λ (l : Strings). keys l children) (blank s h.0)) (keys_root more h.2)
