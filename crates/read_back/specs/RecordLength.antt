-- Each record has the same length: the law of the format. It stands here since an impl's law may cite no proofs, and calls no tactic. Assumes nothing.
use mathlib.Core.Path.{◌≡◌, refl, sym, ap, ap₂, ◌∙◌, subst}
use Prim.Native.Nat.{ℕ, suc, ◌+◌, ◌-◌, ◌*◌, ◌≤◌}
use mathlib.Core.List.{List, ◌∷◌, ◌++◌}
use native.Mathlib.Nat.{mul-add, add-sub_of_le}
use borrow.Author.Tests.{leb-true}
use lib.ListN.{length, take, replicate, length-append, length-replicate}
use lib.Seq.{length-take-le}
use Rattle.rows.specs.Sizes.{row_size, node_limit, record_size}
use Rattle.entries.specs.Slots.{slot_size}
use Rattle.read_back.specs.Readings.{node_size, record_bytes}

-- the nodes above and the zeros have the room of all nodes
nodes_fill : (n : ℕ) (way : List ℕ) → length way ≡ node_size * n → n ≤ node_limit
    → length (way ++ replicate (node_size * (node_limit - n)) 0) ≡ node_size * node_limit
nodes_fill n way ways few =
    length-append way (replicate (node_size * (node_limit - n)) 0)
    ∙ ap₂ ◌+◌ ways (length-replicate {A = ℕ} (node_size * (node_limit - n)) 0)
    ∙ sym (mul-add node_size n (node_limit - n))
    ∙ ap (λ (i : ℕ). node_size * i) (add-sub_of_le few)

pub length_record : (n : ℕ) (way k : List ℕ) → length k ≡ slot_size → length way ≡ node_size * n → n ≤ node_limit → length (record_bytes n way k) ≡ record_size
unfolding record_bytes
length_record n way k long ways few =
    length-append (take row_size k) (n ∷ (way ++ replicate (node_size * (node_limit - n)) 0))
    ∙ ap₂ (λ (i j : ℕ). i + suc j)
    (length-take-le row_size k (subst (λ (i : ℕ). row_size ≤ i) (sym long) (leb-true row_size slot_size refl)))
    (nodes_fill n way ways few)
