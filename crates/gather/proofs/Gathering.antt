-- What the walk of a whole trie puts: the slots of its entries. Assumes nothing.
use mathlib.Core.Path.{◌≡◌, refl, sym, ap, ap₂, ◌∙◌}
use mathlib.Core.Bool.{true}
use Prim.Native.Nat.{ℕ, zero, suc, ◌+◌, ◌-◌, ◌*◌, ◌≤◌}
use mathlib.Core.List.{List, [], ◌∷◌, ◌++◌, append-nil, map}
use native.Mathlib.Omega.{arith}
use lib.ListN.{length, take, drop, length-map, length-take, length-drop}
use lib.Seq.{take_all, take-take, drop-drop}
use Rattle.buffer.specs.Lists.{all, pick, flat}
use Rattle.buffer.specs.Splice.{splice}
use Rattle.buffer.proofs.Lists.{tested_take}
use Rattle.buffer.proofs.Tests.{and_left, and_right, and_both}
use Rattle.rows.specs.Entry.{Entry, fits_row}
use Rattle.rows.specs.Records.{records}
use Rattle.rows.proofs.Records.{records_joined}
use Rattle.trie_theory.specs.Forest.{Strings, Key, Forest, keys}
use Rattle.trie_theory.specs.Encode.{Regular}
use Rattle.entries.specs.Keys.{entry_key}
use Rattle.entries.specs.Slots.{slot_size, slot, short_path}
use Rattle.trie_read.specs.Shape.{part}
use Rattle.gather.specs.KeySlots.{has_slot, key_slot, known}
use Rattle.gather.specs.Walks.{joined}
use Rattle.gather.specs.Visits.{Visit, visits, made, row_of, TrieVisits, Walked}
use Rattle.gather.specs.Gathered.{Gathered}
use Rattle.gather.specs.declared.known.Below.{Below}
use Rattle.gather.specs.declared.output.Output.{Output}
use Rattle.gather.proofs.Filling.{length_slot, short_slot, entry_has, entry_slot}
use Rattle.gather.proofs.Putting.{length_put, all_even, written_first}
use Rattle.gather.proofs.Splitting.{keys_root, visits_keys}
use Rattle.gather.proofs.Turning.{Row, length_made}

all_short : (xs : List Key) → all has_slot xs ≡ true → all short_path (map key_slot xs) ≡ true
all_short [] h = refl
all_short (x ∷ xs) h = and_both (short_slot x (and_left (has_slot x) (all has_slot xs) h)) (all_short xs (and_right (has_slot x) (all has_slot xs) h))

-- slots read back
records_put : (xs : List Key) → all has_slot xs ≡ true → records slot_size (length xs) (joined key_slot xs) ≡ map key_slot xs
unfolding joined
records_put xs h =
    let r = records_joined slot_size (map key_slot xs) [] (all_even key_slot slot_size length_slot xs h) in
    rw (length-map xs key_slot, append-nil (flat (map key_slot xs))) at r

-- the keys of entries have slots, which are those of the entries
pick_entries : (es : List Entry) → all fits_row es ≡ true → pick has_slot (map entry_key es) ≡ map entry_key es
unfolding pick
pick_entries [] h = refl
pick_entries (e ∷ es) h =
    rw (entry_has e (and_left (fits_row e) (all fits_row es) h)) (ap (λ (l : List Key). entry_key e ∷ l) (pick_entries es (and_right (fits_row e) (all fits_row es) h)))

joined_entries : (es : List Entry) → all fits_row es ≡ true → joined key_slot (map entry_key es) ≡ flat (map slot es)
unfolding joined flat
joined_entries [] h = refl
joined_entries (e ∷ es) h =
    ap₂ ◌++◌ (entry_slot e (and_left (fits_row e) (all fits_row es) h)) (joined_entries es (and_right (fits_row e) (all fits_row es) h))

pub known_nothing : (k : List ℕ) → known 0 0 k ≡ [] ∷ [] ∷ []
unfolding known
known_nothing k = refl

-- ---- visits

abbrev slots : Row
slots n way k = k

abbrev keys_of : List Visit → List Key
keys_of vs = map (λ (x : Visit). x.key) vs

joined_keys : (vs : List Visit) → joined (row_of slots) vs ≡ joined key_slot (keys_of vs)
unfolding joined flat
joined_keys [] = refl
joined_keys (v ∷ vs) = ap (λ (l : List ℕ). key_slot v.key ++ l) (joined_keys vs)

have_slots : (vs : List Visit) → all made vs ≡ true → all has_slot (keys_of vs) ≡ true
have_slots [] h = refl
have_slots (v ∷ vs) h = and_both (and_left (has_slot v.key) _ (and_left (made v) (all made vs) h)) (have_slots vs (and_right (made v) (all made vs) h))

-- what stands before `out`, and then all that was written behind it
spliced : (s b : List ℕ) (out : ℕ) → take out s ++ splice (drop out s) 0 b ≡ splice s out b
unfolding splice
spliced s b out = let z : 0 + length b ≡ length b = omega arith in rw (z, drop-drop (length b) out s) refl

-- the keys found are those of the entries
found_entries : (f : Forest) (es : List Entry) (k way : List ℕ) → Regular 2 f → keys [] f ≡ map entry_key es → all fits_row es ≡ true
    → keys_of (visits 0 way (known 0 0 k) f) ≡ map entry_key es
found_entries f es k way g e a =
    let root : keys (known 0 0 k) f ≡ map entry_key es = ap (λ (l : Strings). keys l f) (known_nothing k) ∙ keys_root f g ∙ e in
    visits_keys 0 way (known 0 0 k) f ∙ ap (pick has_slot) root ∙ pick_entries es a

-- a part of the bytes before `out`
pub take_inside : (m i e : ℕ) (s : List ℕ) → i + m ≤ e → take m (drop i (take e s)) ≡ take m (drop i s)
take_inside m zero e s h = take-take m e s (omega arith)
take_inside m (suc i) zero s h = absurd (omega arith)
take_inside m (suc i) (suc e) [] h = refl
take_inside m (suc i) (suc e) (x ∷ s) h = take_inside m i e s (omega arith)

pub part_before : (from to out : ℕ) (s t : List ℕ) → from ≤ to → to ≤ out → t ≡ take out s → part from to t ≡ part from to s
part_before from to out s t h l e = ap (part from to) e ∙ take_inside (to - from) from out s (omega arith)

pub gathered : {from to out room : ℕ} {s s' t k k' way : List ℕ} {x : Below} {o o' : Output} {r : ℕ}
    (w : Walked slots (TrieVisits 0 way (known 0 0 k) t) x t o o' k k') → t ≡ part from to s
    → out + room * slot_size ≤ length s → o.bytes.now ≡ drop out s → o.room ≡ room → o.rows ≡ 0 → s' ≡ take out s ++ o'.bytes.now
    → r ≡ length (take room w.put.put) → Gathered from to out room s s' r
gathered {from} {to} {out} {room} {s} {s'} {t} {k} {k'} {way} {x} {o} {o'} {r} w part_is fits old full none is count =
    let put = w.put.put in
    let found = keys_of (take room put) in
    let has = have_slots (take room put) (tested_take made room put w.put.fit) in
    let wrote = written_first (row_of slots) slot_size (length_made slots slot_size (λ n y z long ways few. long)) 0 room put (drop out s) w.put.fit (omega (arith, length-drop out s)) in
    let bytes : o'.bytes.now ≡ splice (drop out s) 0 (joined (row_of slots) (take room put)) = rw (full, none, old) at w.put.writes ∙ wrote in
    let long : length found ≡ r = length-map (take room put) (λ (x : Visit). x.key) ∙ sym count in
    record {
      bytes = joined key_slot found;
      is = is ∙ ap (λ (l : List ℕ). take out s ++ l) (bytes ∙ ap (splice (drop out s) 0) (joined_keys (take room put))) ∙ spliced s (joined key_slot found) out;
      long = length_put key_slot slot_size length_slot found has ∙ ap (λ (i : ℕ). i * slot_size) long;
      most = omega (arith, length-take {A = Visit});
      short = rw (← long, records_put found has) (all_short found has);
      entries = λ f es g h b e a m.
          let vs = visits 0 way (known 0 0 k) f in
          let all_of = found_entries f es k way g e a in
          let few : length vs ≤ room = omega (arith, length-map vs (λ (x : Visit). x.key), ap length all_of, length-map es entry_key) in
          let these : take room put ≡ vs = ap (take room) (w.put.are vs record { tries = f; regular = g; high = omega (arith, h); bytes = part_is ∙ b; is = refl }) ∙ take_all room vs few in
          let same : found ≡ map entry_key es = ap keys_of these ∙ all_of in
          (sym long ∙ ap length same ∙ length-map es entry_key, ap (joined key_slot) same ∙ joined_entries es a);
    }
