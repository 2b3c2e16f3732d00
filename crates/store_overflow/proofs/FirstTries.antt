-- The entries of one trie more behind those gathered. Assumes nothing.
use Prim.Native.Nat.{ℕ, suc, ◌+◌, ◌*◌, ◌-◌, ◌≤◌}
use mathlib.Core.Path.{◌≡◌, refl, sym, ap, ap₂, subst, ◌∙◌}
use mathlib.Core.List.{List, [], ◌++◌, map}
use native.Mathlib.Omega.{arith}
use lib.ListN.{length, length-append}
use Rattle.buffer.specs.Lists.{flat}
use Rattle.buffer.proofs.Splice.{splice_nil, splice_then, region_before}
use Rattle.rows.specs.Records.{records}
use Rattle.rows.proofs.Records.{records_append}
use Rattle.trie_theory.specs.Forest.{Forest}
use Rattle.entries.specs.Slots.{slot_size, slot, short_path}
use Rattle.trie_read.specs.Shape.{part}
use Rattle.gather.specs.Gathered.{Gathered}
use Rattle.buffer.proofs.Lists.{tested_append, flat_map_append, flat_map_next}
use Rattle.book.specs.Front.{Front}
use Rattle.book.specs.Tries.{Tries}
use Rattle.book.specs.FromTries.{entries_of}
use Rattle.book.specs.Image.{Holds}
use Rattle.book.specs.Good.{GoodTries}
use Rattle.book.proofs.EntryKeys.{keys_of_entries}
use Rattle.store.specs.Parts.{numbered, up_to, PartOf}
use Rattle.store.proofs.Places.{up_to_next, good_numbered, good_regular}
use Rattle.store_overflow.specs.Steps.{FirstGathered}

-- the entries of one trie more
pub entries_next : (k : ℕ) (t : Tries) → flat (map entries_of (up_to (suc k) t)) ≡ flat (map entries_of (up_to k t)) ++ entries_of (numbered t k)
entries_next k t =
    ap (λ (fs : List Forest). flat (map entries_of fs)) (up_to_next k t) ∙ flat_map_next entries_of (up_to k t) (numbered t k)

-- none yet
pub gathered_none : (m l k out room : ℕ) (s : List ℕ) → k ≡ 0 → FirstGathered m l k out room s s 0
unfolding records flat
gathered_none m l k out room s e =
    record {
      bytes = [];
      is = sym (splice_nil s out);
      long = refl;
      most = omega arith;
      short = refl;
      entries = λ f t em el g h. rw e (λ few. (refl, refl));
    }

module _ (m l k from to out room n r : ℕ) (s s₁ s₂ : List ℕ) (p : PartOf s m l k from to) (a : FirstGathered m l k out room s s₁ n)
    (g : Gathered from to (out + n * slot_size) (room - n) s₁ s₂ r)
    (low : k ≤ l) (before : to ≤ out) (fits : out + room * slot_size ≤ length s) where
  abbrev both : List ℕ
  both = a.bytes ++ g.bytes

  stays : part from to s₁ ≡ part from to s
  stays = rw a.is (region_before s out a.bytes (omega (arith, a.long, a.most)) from (to - from) (omega (arith, p.ordered)))

  those : (f : Front) (t : Tries) → f.M ≡ m → f.L ≡ l → GoodTries f t → Holds s f t
      → length (flat (map entries_of (up_to k t)) ++ entries_of (numbered t k)) ≤ room
      → (n + r ≡ length (flat (map entries_of (up_to k t)) ++ entries_of (numbered t k)))
      × (both ≡ flat (map slot (flat (map entries_of (up_to k t)) ++ entries_of (numbered t k))))
  those f t em el good h few =
      let xs = flat (map entries_of (up_to k t)) in
      let ys = entries_of (numbered t k) in
      let l₂ = length-append xs ys in
      let first = a.entries f t em el good h (omega arith) in
      let w = good_numbered f t good k (subst (λ (x : ℕ). k ≤ x) (sym el) low) in
      let ks = keys_of_entries (numbered t k) w.entries in
      let next = g.entries (numbered t k) ys (good_regular _ (numbered t k) w) w.high
      (stays ∙ p.holds f t em el good h) ks.0 ks.1 (omega (arith, first.0)) in
      (omega (arith, first.0, next.0), ap₂ ◌++◌ first.1 next.1 ∙ sym (flat_map_append slot xs ys))

  pub gathered_next : FirstGathered m l (suc k) out room s s₂ (n + r)
  gathered_next =
      record {
        bytes = both;
        is = g.is ∙ splice_then s₁ s out a.bytes (out + n * slot_size) g.bytes a.is
            (omega (arith, a.long)) (omega (arith, a.long, a.most));
        long = omega (arith, length-append a.bytes g.bytes, a.long, g.long);
        most = omega (arith, a.most, g.most);
        short = rw (records_append slot_size n r a.bytes g.bytes a.long)
            (tested_append short_path (records slot_size n a.bytes) (records slot_size r g.bytes) a.short g.short);
        entries = λ f t em el good h. rw (entries_next k t) (those f t em el good h);
      }

pub gathered_more : (m l k from to out room n r : ℕ) (s s₁ s₂ : List ℕ) → (k ≡ 0 → ⊥) → PartOf s m l (k - 1) from to
    → FirstGathered m l (k - 1) out room s s₁ n
    → Gathered from to (out + n * slot_size) (room - n) s₁ s₂ r → k ≤ l + 1 → to ≤ out
    → out + room * slot_size ≤ length s → FirstGathered m l k out room s s₂ (n + r)
gathered_more m l k from to out room n r s s₁ s₂ some p a g low before fits =
    let e : k ≡ suc (k - 1) = omega (arith, some) in
    subst (λ (x : ℕ). FirstGathered m l x out room s s₂ (n + r)) (sym e)
    (gathered_next m l (k - 1) from to out room n r s s₁ s₂ p a g (omega (arith, some)) before fits)
