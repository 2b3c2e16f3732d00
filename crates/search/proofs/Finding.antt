-- The turns of a loop of a search: rows put and nodes counted so far, and what is left; and the turns over suffixes. Assumes nothing.
use mathlib.Core.Path.{◌≡◌, refl, sym, ap, subst, ◌∙◌}
use mathlib.Core.Bool.{Bool, true, false, cond, ◌&&◌}
use Prim.Native.Nat.{ℕ, ◌+◌, ◌*◌, ◌≤◌, ◌<◌}
use mathlib.Core.List.{List, [], ◌∷◌, ◌++◌, append_assoc, append-nil, map}
use native.Mathlib.Omega.{arith}
use lib.ListN.{length, take, length-append}
use lib.Dec.{ltb}
use Rattle.std.specs.Prelude.{Option, Some, None}
use Rattle.std.specs.Option.{option_map}
use Rattle.buffer.specs.Lists.{All, nil, cons, pick}
use Rattle.buffer.specs.Numbers.{number}
use Rattle.buffer.specs.Splice.{region, splice}
use Rattle.buffer.proofs.Lists.{all_head, all_tail, all_imp, pick_append}
use Rattle.matcher.specs.Continued.{FirstBytes}
use Rattle.matcher.specs.Reach.{reach_of}
use Rattle.matcher.specs.declared.reach.Answer.TheVariants.{Mismatch}
use Rattle.rows.specs.Sizes.{value_size, row_size, path_at}
use Rattle.trie_theory.specs.Forest.{Strings, Key, join, under}
use Rattle.trie_theory.specs.Strings.{at}
use Rattle.trie_theory.specs.Sound.{Rising}
use Rattle.trie_theory.proofs.Strings.{at_join}
use Rattle.entries.specs.Slots.{slot_size}
use Rattle.entries.specs.Query.{Query, value_reach, is_match, wants}
use Rattle.trie_read.specs.Shape.{Fixed}
use Rattle.trie_read.specs.Suffixes.{suffixes_bytes, tail_of, tail_in}
use Rattle.trie_read.specs.declared.suffix.Suffix.{Suffix}
use Rattle.trie_read.proofs.SuffixParts.{Seen, tail_end, tail_at}
use Rattle.gather.specs.KeySlots.{has_slot, key_slot, known, suffix_key}
use Rattle.gather.specs.Walks.{Put, known_strings}
use Rattle.gather.specs.Outputs.{RowPut}
use Rattle.entries.specs.declared.known.Known.{Known}
use Rattle.gather.specs.declared.output.Output.{Output}
use Rattle.gather.proofs.Filling.{slotted}
pub use Rattle.gather.proofs.Filling.{length_row}
use Rattle.gather.proofs.Putting.{put_none, put_then, put_one}
use Rattle.gather.proofs.Splitting.{pick_one, pick_not, seen_key}
use Rattle.search.specs.Steps.{takes, key_row, Taken}
use Rattle.search.specs.Searches.{OfPath, Searched, SuffixesFound, Walked}
use Rattle.value_range.specs.Spans.{Spans}
use Rattle.value_range.proofs.Ranges.{with_above}
use Rattle.search.proofs.Steps.{key_path}

-- ---- a loop

pub record Left (More : List Key → ℕ → Type 0) (put : List Key) (nodes : ℕ) (ks : List Key) (e : ℕ) : Type 0 where
  pub more : List Key
  pub rest : ℕ
  pub has : More more rest
  pub all : put ++ more ≡ ks
  pub sum : nodes + rest ≡ e

pub record Finding (Has More : List Key → ℕ → Type 0) (v p room n c : ℕ) (s k s' k' : List ℕ) (m d : ℕ) : Type 0 where
  pub rows : Put key_row (λ ks. ⊥) v p 0 room n s k s' k' m
  pub nodes : ℕ
  pub count : d ≡ c + nodes
  pub left : (ks : List Key) (e : ℕ) → Has ks e → Left More rows.put nodes ks e

-- keys and nodes in two parts
pub record Parts (A B : List Key → ℕ → Type 0) (ks : List Key) (e : ℕ) : Type 0 where
  pub first : List Key
  pub second : List Key
  pub before : ℕ
  pub behind : ℕ
  pub one : A first before
  pub other : B second behind
  pub is : ks ≡ first ++ second
  pub sum : e ≡ before + behind

module _ {Has : List Key → ℕ → Type 0} {v p room n c : ℕ} {s k : List ℕ} where
  pub finding_from : {More : List Key → ℕ → Type 0} → ((ks : List Key) (e : ℕ) → Has ks e → More ks e) → Finding Has More v p room n c s k s k n c
  unfolding put_none
  finding_from f =
      record {
        rows = put_none refl (λ ks z. absurd z);
        nodes = 0;
        count = omega arith;
        left = λ ks e h. record { more = ks; rest = e; has = f ks e h; all = refl; sum = omega arith };
      }

  module _ {More : List Key → ℕ → Type 0} {s' k' : List ℕ} {m d : ℕ} (l : Finding Has More v p room n c s k s' k' m d) where
    -- nothing is left
    pub finding_end : ((ks : List Key) (e : ℕ) → More ks e → (ks ≡ []) × (e ≡ 0)) → Searched Has v p room n c s k s' k' m d
    finding_end h =
        record {
          rows = l.rows;
          nodes = l.nodes;
          count = l.count;
          are = λ ks e a.
              let r = l.left ks e a in
              let z = h r.more r.rest r.has in
              (sym (append-nil l.rows.put) ∙ ap (λ (x : List Key). l.rows.put ++ x) (sym z.0) ∙ r.all, omega (arith, z.1, r.sum));
        }

    -- what is left may be said by less
    pub finding_less : {More' : List Key → ℕ → Type 0} → ((ks : List Key) (e : ℕ) → More ks e → More' ks e) → Finding Has More' v p room n c s k s' k' m d
    finding_less f =
        record {
          rows = l.rows;
          nodes = l.nodes;
          count = l.count;
          left = λ ks e a. let r = l.left ks e a in record { more = r.more; rest = r.rest; has = f r.more r.rest r.has; all = r.all; sum = r.sum };
        }

    -- the first of what is left is found
    pub finding_on : {Item More' : List Key → ℕ → Type 0} {s'' k'' : List ℕ} {r f : ℕ} → Searched Item v p room m d s' k' s'' k'' r f
        → ((ks : List Key) (e : ℕ) → More ks e → Parts Item More' ks e) → Finding Has More' v p room n c s k s'' k'' r f
    unfolding put_then
    finding_on i split =
        record {
          rows = put_then l.rows i.rows;
          nodes = l.nodes + i.nodes;
          count = omega (arith, l.count, i.count);
          left = λ ks e a.
              let r = l.left ks e a in
              let t = split r.more r.rest r.has in
              let z = i.are t.first t.before t.one in
              record {
                more = t.second;
                rest = t.behind;
                has = t.other;
                all =
                    append_assoc l.rows.put i.rows.put t.second
                    ∙ ap (λ (x : List Key). l.rows.put ++ x) (ap (λ (x : List Key). x ++ t.second) z.0 ∙ sym t.is)
                    ∙ r.all;
                sum = omega (arith, r.sum, t.sum, z.1);
              };
        }

-- the same of a walk's output, where the bytes t are left
pub record Going (Has More : List Key → ℕ → Type 0) (x : Known) (t₀ t : List ℕ) (o₀ o : Output) (k₀ k : List ℕ) (d : ℕ) : Type 0 where
  pub few_rows : o.rows + length t ≤ o₀.rows + length t₀
  pub few_nodes : d + length t ≤ length t₀
  pub room : o.room ≡ o₀.room
  pub same_reference : o.bytes.ghost_name ≡ o₀.bytes.ghost_name
  pub long : length k ≡ slot_size
  pub finding : Finding Has More x.value x.path o₀.room o₀.rows 0 o₀.bytes.now k₀ o.bytes.now k o.rows d

module _ {Has : List Key → ℕ → Type 0} {x : Known} {t₀ : List ℕ} {o₀ : Output} {k₀ : List ℕ} where
  pub going_start : length k₀ ≡ slot_size → Going Has Has x t₀ t₀ o₀ o₀ k₀ k₀ 0
  going_start long = record { few_rows = omega arith; few_nodes = omega arith; room = refl; same_reference = refl; long = long; finding = finding_from (λ ks e h. h) }

  pub going_done : {More : List Key → ℕ → Type 0} {t : List ℕ} {o : Output} {k : List ℕ} {d : ℕ} → Going Has More x t₀ t o₀ o k₀ k d
      → ((ks : List Key) (e : ℕ) → More ks e → (ks ≡ []) × (e ≡ 0)) → Walked Has x t₀ o₀ o k₀ k d
  going_done l h =
      record { few_rows = omega (arith, l.few_rows); few_nodes = omega (arith, l.few_nodes); room = l.room; same_reference = l.same_reference; searched = finding_end l.finding h }

-- no key and no node
pub searched_none : {Has : List Key → ℕ → Type 0} {v p room n c : ℕ} {s k k' : List ℕ} → known v p k' ≡ known v p k
    → ((ks : List Key) (e : ℕ) → Has ks e → (ks ≡ []) × (e ≡ 0)) → Searched Has v p room n c s k s k' n c
unfolding put_none
searched_none kept h =
    record {
      rows = put_none kept (λ ks z. absurd z);
      nodes = 0;
      count = omega arith;
      are = λ ks e a. let z = h ks e a in (sym z.0, sym z.1);
    }

-- ---- suffixes

-- one key of a path: what is found of it
abbrev OneKey : Query → Key → List Key → ℕ → Type 0
OneKey q x ks e = OfPath x × (ks ≡ pick (takes q) (x ∷ [])) × (e ≡ 0)

-- its row is written, if there is room
searched_one : {v p room n c : ℕ} {k k' : List ℕ} (q : Query) (x : Key) (s s' : List ℕ) → has_slot x ≡ true → (OfPath x → takes q x ≡ true) → room * row_size ≤ length s
    → s' ≡ cond (ltb n room) (splice s (n * row_size) (key_row x)) s → known v p k' ≡ known v p k → Searched (OneKey q x) v p room n c s k s' k' (n + 1) c
searched_one {room = room} {n = n} q x s s' slot t fits is kept =
    let z : 0 + n * row_size ≡ n * row_size = omega arith in
    let one = put_one key_row row_size length_row 0 room n s s' x slot (omega arith) (rw z is) kept in
    record {
      rows = record {
        put = one.put;
        fit = one.fit;
        count = one.count;
        long = one.long;
        writes = one.writes;
        front = one.front;
        kept = one.kept;
        are = λ ks z. absurd z;
      };
      nodes = 0;
      count = omega arith;
      are = λ ks e a. (one.are ks (a.1 ∙ pick_one (takes q) x (t a.0)), sym a.2);
    }

none_taken : (q : Query) (k : Strings) (ts : List Key) → ts ≡ [] → pick (takes q) (map (under k) ts) ≡ []
unfolding pick
none_taken q k ts e = rw e

-- a key whose value, of which at 0 k is known, lies above the range
above_range : (q : Query) (k : Strings) (u : Key) {n from to : ℕ} → Spans q (at 0 k) n from to → length (at 0 k) + n ≡ value_size → to < number (at 0 u.strings)
    → takes q (under k u) ≡ false
unfolding takes wants under
above_range q k u {n} {from} {to} spans whole h = go (has_slot (under k u)) refl
  where
    out : length (at 0 (join k u.strings)) ≡ value_size → Mismatch ≡ value_reach q (at 0 (join k u.strings))
    out l =
        let j = at_join 0 k u.strings in
        let long : length (at 0 u.strings) ≡ n = omega (arith, ap length j, length-append (at 0 k) (at 0 u.strings)) in
        rw j (with_above q (at 0 k) (at 0 u.strings) from to (rw long spans) h)

    go : (b : Bool) → has_slot (under k u) ≡ b → b && (is_match (value_reach q (at 0 (join k u.strings))) && is_match (reach_of q.pattern (at 1 (join k u.strings)))) ≡ false
    go false e = refl
    go true e = rw (← out (slotted (under k u) e).value)

none_above : (q : Query) (k : Strings) {n from to : ℕ} → Spans q (at 0 k) n from to → length (at 0 k) + n ≡ value_size → {us : List Key}
    → All (λ u. to < number (at 0 u.strings)) us → pick (takes q) (map (under k) us) ≡ []
unfolding pick
none_above q k spans whole nil = refl
none_above q k spans whole (cons {x = u} h a) = rw (above_range q k u spans whole h, none_above q k spans whole a)

module _ (x : Key) (xs : List Key) (r : Rising (x ∷ xs)) where
  rising_tail : Rising xs
  unfolding Rising
  rising_tail = r.1

  -- where the first lies above, all do
  rising_above : (to : ℕ) → to < number (at 0 x.strings) → All (λ u. to < number (at 0 u.strings)) (x ∷ xs)
  unfolding Rising
  rising_above to h = cons h (all_imp (λ u l. omega arith) r.0)

-- what is read of suffixes, is the first
seen_in : (r : Option Suffix) (x : Suffix) (us : List Key) → All Fixed us → option_map tail_in r ≡ tail_of us → r ≡ Some x → Seen us (tail_in x)
seen_in r x us a e z = tail_at us (tail_in x) a (rw z at e)

module _ {q : Query} {k : Strings} {t : List ℕ} {r : Option Suffix} (is : (us : List Key) → All Fixed us → t ≡ suffixes_bytes us → option_map tail_in r ≡ tail_of us) where
  pub suffixes_end : r ≡ None → (ks : List Key) (e : ℕ) → SuffixesFound q k t ks e → (ks ≡ []) × (e ≡ 0)
  suffixes_end z ks e s = (s.is ∙ none_taken q k s.suffixes (tail_end s.suffixes (rw z at (is s.suffixes s.fixed s.bytes))), s.entered)

  module _ (x : Suffix) (z : r ≡ Some x) where
    -- the first lies above the range, and so do all
    pub suffixes_above : {n from to : ℕ} → Spans q (at 0 k) n from to → length (at 0 k) + n ≡ value_size → to < number x.value.now
        → (ks : List Key) (e : ℕ) → SuffixesFound q k t ks e → (ks ≡ []) × (e ≡ 0)
    suffixes_above {to = to} spans whole h ks e s =
        let v = seen_in r x s.suffixes s.fixed (is s.suffixes s.fixed s.bytes) z in
        let above = rising_above v.t v.others (subst Rising v.is s.rises) to (rw v.value_is at h) in
        (s.is ∙ ap (λ (us : List Key). pick (takes q) (map (under k) us)) v.is ∙ none_above q k spans whole above, s.entered)

    pub suffixes_split : (ks : List Key) (e : ℕ) → SuffixesFound q k t ks e → Parts (OneKey q (suffix_key k x.value.now x.path.now x.reference.now)) (SuffixesFound q k x.rest.now) ks e
    suffixes_split ks e s =
        let v = seen_in r x s.suffixes s.fixed (is s.suffixes s.fixed s.bytes) z in
        let rises : Rising (v.t ∷ v.others) = subst Rising v.is s.rises in
        let paths : All OfPath (under k v.t ∷ map (under k) v.others) = subst (λ (us : List Key). All OfPath (map (under k) us)) v.is s.paths in
        record {
          first = pick (takes q) (suffix_key k x.value.now x.path.now x.reference.now ∷ []);
          second = pick (takes q) (map (under k) v.others);
          before = 0;
          behind = 0;
          one = (subst (λ (y : Key). OfPath (under k y)) (sym (seen_key v)) (all_head paths), refl, refl);
          other = record { suffixes = v.others; fixed = v.fixed; paths = all_tail paths; rises = rising_tail v.t v.others rises; bytes = v.rest_is; is = refl; entered = refl };
          is =
              s.is
              ∙ ap (λ (us : List Key). pick (takes q) (map (under k) us)) v.is
              ∙ pick_append (takes q) (under k v.t ∷ []) (map (under k) v.others)
              ∙ ap (λ (y : Key). pick (takes q) (under k y ∷ []) ++ pick (takes q) (map (under k) v.others)) (sym (seen_key v));
          sum = s.entered;
        }

module _ {Has : List Key → ℕ → Type 0} {q : Query} {y : Known} {t₀ t k₀ k : List ℕ} {o₀ o : Output} {d : ℕ}
    (l : Going Has (SuffixesFound q (known_strings y k₀) t) y t₀ t o₀ o k₀ k d) {r : Option Suffix}
    (is : (us : List Key) → All Fixed us → t ≡ suffixes_bytes us → option_map tail_in r ≡ tail_of us)
    (x : Suffix) (e : r ≡ Some x) (inside : length t ≡ 22 + length x.value.now + length x.path.now + length x.rest.now)
    {k' : List ℕ} {b : Bool} (taken : Taken q y x.value.now x.path.now x.reference.now k k' b) (long : length k' ≡ slot_size) where
  abbrev of_key : Strings → Key
  of_key z = suffix_key z x.value.now x.path.now x.reference.now

  now_key : of_key (known_strings y k) ≡ of_key (known_strings y k₀)
  now_key = ap of_key l.finding.rows.kept

  now_path : OfPath (of_key (known_strings y k₀)) → FirstBytes (region k path_at y.path ++ x.path.now)
  now_path f = subst FirstBytes (ap (λ (z : Key). at 1 z.strings) (sym now_key) ∙ key_path y.value y.path k x.value.now x.path.now x.reference.now) f

  pub suffixes_put : {o' : Output} → o₀.room * row_size ≤ length o₀.bytes.now → b ≡ true → RowPut row_size (take row_size k') o o'
      → Going Has (SuffixesFound q (known_strings y k₀) x.rest.now) y t₀ x.rest.now o₀ o' k₀ k' d
  unfolding key_row
  suffixes_put {o'} fits h w =
      let z = of_key (known_strings y k₀) in
      let has : OfPath z → takes q z ≡ true = λ f. ap (takes q) (sym now_key) ∙ sym (taken.is (now_path f)) ∙ h in
      let row : take row_size k' ≡ key_row z = ap (take row_size) (taken.slot h ∙ ap key_slot now_key) in
      let room : o₀.room * row_size ≤ length o.bytes.now = omega (arith, fits, l.finding.rows.long) in
      let few = l.few_nodes in
      record {
        few_rows = omega (arith, l.few_rows, w.rows, inside);
        few_nodes = omega (arith, few, inside);
        room = w.room ∙ l.room;
        same_reference = w.same_reference ∙ l.same_reference;
        long = long;
        finding = rw w.rows
            (finding_on l.finding (searched_one q z o.bytes.now o'.bytes.now (ap has_slot (sym now_key) ∙ taken.fits h) has room (rw (l.room, row) at w.bytes) taken.kept) (suffixes_split is x e));
      }

  pub suffixes_pass : b ≡ false → Going Has (SuffixesFound q (known_strings y k₀) x.rest.now) y t₀ x.rest.now o₀ o k₀ k' d
  suffixes_pass h =
      let z = of_key (known_strings y k₀) in
      let has : OfPath z → takes q z ≡ false = λ f. ap (takes q) (sym now_key) ∙ sym (taken.is (now_path f)) ∙ h in
      record {
        few_rows = omega (arith, l.few_rows);
        few_nodes = omega (arith, l.few_nodes);
        room = l.room;
        same_reference = l.same_reference;
        long = long;
        finding = finding_on l.finding (searched_none {Has = OneKey q z} taken.kept (λ ks a u. (u.1 ∙ pick_not (takes q) z (has u.0), u.2))) (suffixes_split is x e);
      }
