-- The root's end in its region.
use mathlib.Core.Path.{ap}
use Prim.Native.Nat.{ℕ, ◌+◌}
use native.Mathlib.Omega.{arith}
use Rattle.store.proofs.Places.{region_within, placed}
use Rattle.store.proofs.part.trie_range.Goals as goal

pub slice_bounds-trie_length-end : goal.slice_bounds-trie_length-end
slice_bounds-trie_length-end c =
    omega (arith, region_within c.args.front.m c.args.front.l c.args.k c.requires.0, c.region_at-from.ensures.0, c.region_size.ensures.0, c.requires.1)

pub returns : goal.returns
returns c =
    let from = c.region_at-from.result in
    placed _ _ c.args.front.l _ from (from + c.region_size.result) c.trie_length.result c.region_at-from.ensures.0
    (ap (λ (n : ℕ). from + n) c.region_size.ensures.0) c.requires.1 c.requires.0 c.trie_length.ensures.upper_bound c.trie_length.ensures.value
