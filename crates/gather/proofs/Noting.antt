-- Going down to a node: what is noted. Assumes nothing.
use mathlib.Core.Path.{◌≡◌, ap₂}
use Prim.Native.Nat.{ℕ, suc, ◌+◌, ◌*◌, ◌≤◌, ◌<◌}
use mathlib.Core.List.{List, [], ◌∷◌, ◌++◌}
use native.Mathlib.Omega.{arith}
use lib.ListN.{length, take}
use lib.Seq.{length-take-le}
use Rattle.std.specs.Prelude.{Some}
use Rattle.buffer.specs.Splice.{splice, region}
use Rattle.buffer.proofs.Splice.{take_splice, take_before, length_region}
use Rattle.rows.specs.Sizes.{value_size, path_at, node_limit}
use Rattle.entries.specs.Slots.{slot_size}
use Rattle.gather.specs.KeySlots.{ended_limit, known}
use Rattle.gather.specs.Walks.{Entered}
use Rattle.gather.specs.Visits.{node_size, way_size, node_of, Descended}
use Rattle.entries.specs.declared.known.Known.{Known}
use Rattle.gather.specs.declared.known.Below.{Below}

-- positions count the known bytes, from 1
node_known : (v p : ℕ) (k : List ℕ) (kind : ℕ) → length k ≡ slot_size → v ≤ value_size → p ≤ ended_limit → node_of (known v p k) kind ≡ kind ∷ (p + 1) ∷ (v + 1) ∷ []
unfolding node_of known
node_known v p k kind long lv lp =
    let value : suc (length (take v k)) ≡ v + 1 = omega (arith, length-take-le v k (omega arith)) in
    let path : suc (length (region k path_at p)) ≡ p + 1 = omega (arith, length_region k path_at p (omega arith)) in
    ap₂ (λ (x y : ℕ). kind ∷ x ∷ y ∷ []) path value

pub noted : {x : Below} {y : Known} {z : Below} {value path k k' w w' : List ℕ} {kind : ℕ} → Entered x.known value path k k' (Some y)
    → length k' ≡ slot_size → length w ≡ way_size → x.nodes < node_limit → w' ≡ splice w (node_size * x.nodes) (kind ∷ (y.path + 1) ∷ (y.value + 1) ∷ [])
    → z.nodes ≡ x.nodes + 1 → z.known ≡ y → Descended x value path kind k w k' w' (Some z)
noted {x} {y} {z} {value} {path} {k} {k'} {w} {w'} {kind} e long way less is one same =
    let b = kind ∷ (y.path + 1) ∷ (y.value + 1) ∷ [] in
    let n = x.nodes in
    let fit : node_size * n + length b ≤ length w = omega arith in
    let end : node_size * n + length b ≡ node_size * (n + 1) = omega arith in
    let q : take (node_size * n + length b) (splice w (node_size * n) b) ≡ take (node_size * n) w ++ b = take_splice w (node_size * n) b fit in
    record {
      is = record {
        deeper = rw same e.is;
        one_more = one;
        way = rw (one, same, is, node_known y.value y.path k' kind long y.value_fits y.path_fits) (rw end at q);
      };
      kept = e.kept;
      way_kept = rw is (take_before w (node_size * n) b fit (node_size * n) (omega arith));
    }
