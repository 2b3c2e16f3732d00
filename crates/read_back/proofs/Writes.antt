-- What putting a record writes. Assumes nothing.
use mathlib.Core.Path.{◌≡◌, ap, ◌∙◌}
use Prim.Native.Nat.{ℕ, ◌+◌, ◌-◌, ◌*◌, ◌≤◌}
use mathlib.Core.List.{List, [], ◌∷◌, ◌++◌, append_assoc}
use native.Mathlib.Omega.{arith}
use lib.ListN.{length, take, set, replicate, length-append, length-replicate}
use lib.Seq.{length-take-le}
use Rattle.std.proofs.lemmas.List.{drop-replicate}
use Rattle.buffer.specs.Splice.{splice}
use Rattle.buffer.proofs.Splice.{splice_is, splice_snoc, splice_then}
use Rattle.rows.specs.Sizes.{row_size, node_limit, record_size}
use Rattle.entries.specs.Slots.{slot_size}
use Rattle.read_back.specs.Readings.{node_size, record_bytes}

-- ---- a record

module _ (n : ℕ) (k way : List ℕ) (long : length k ≡ slot_size) (ways : length way ≡ node_size * n) (few : n ≤ node_limit) where
  abbrev row : List ℕ
  row = take row_size k

  length_row : length row ≡ row_size
  length_row = length-take-le row_size k (omega arith)

  abbrev zeros : List ℕ
  zeros = replicate (node_size * (node_limit - n)) 0

  module _ (s : List ℕ) (at : ℕ) (fit : at + record_size ≤ length s) where
    counted : set (splice s at row) (at + row_size) n ≡ splice s at (row ++ (n ∷ []))
    counted = let e : at + length row ≡ at + row_size = omega (arith, length_row) in rw e at (splice_snoc s at row n (omega (arith, length_row)))

    pub recorded : splice (splice (set (splice s at row) (at + row_size) n) (at + (row_size + 1)) way) (at + (row_size + 1) + node_size * n) zeros
        ≡ splice s at (record_bytes n way k)
    unfolding record_bytes
    recorded =
        let one = length-append row (n ∷ []) in
        let two = length-append (row ++ (n ∷ [])) way in
        let way_in = splice_then (set (splice s at row) (at + row_size) n) s at (row ++ (n ∷ [])) (at + (row_size + 1)) way counted (omega (arith, length_row)) (omega (arith, length_row)) in
        let rest = splice_then _ s at ((row ++ (n ∷ [])) ++ way) (at + (row_size + 1) + node_size * n) zeros way_in (omega (arith, length_row)) (omega (arith, length_row)) in
        rest ∙ ap (splice s at) (simp append_assoc)
