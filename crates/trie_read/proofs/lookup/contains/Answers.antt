-- Each turn leads to tries in which what is left of the key is looked for all the same (`Walk`), and what is left of the bytes is shorter.
use Prim.Native.Nat.{◌≤◌}
use mathlib.Core.Path.{◌≡◌, sym, ◌∙◌}
use lib.ListN.{length}
use Rattle.std.specs.Prelude.{None}
use Rattle.std.proofs.Common.{rules}
use Rattle.trie_read.proofs.Walking.{walk_end, walk_past, walk_off, walk_leaf, walk_down, on_lengths}
use Rattle.trie_read.proofs.lookup.contains.Goals.{Else-not-agrees}
use Rattle.trie_read.proofs.lookup.contains.Goals as goal

-- a key that goes on is no shorter than the node's strings
longer : (c : Else-not-agrees) → (length c.in-Some.node.value.now ≤ length c.loop-node.v.now) × (length c.in-Some.node.path.now ≤ length c.loop-node.p.now)
longer c = on_lengths _ _ _ _ (sym c.agrees.ensures ∙ c.if-not-agrees.false)

pub loop-node-preserved-then-not-same_branch : goal.loop-node-preserved-then-not-same_branch
loop-node-preserved-then-not-same_branch c =
    λ f h e. let w = c.loop-node.invariant f h e in
    walk_past w _ (rw c.in-Some.is at c.first_node.ensures.value w.over w.shaped w.bytes) (sym c.same_branch.ensures ∙ c.if-not-same_branch.true)

pub returns-then-not-agrees : goal.returns-then-not-agrees
returns-then-not-agrees c =
    λ f h e. let w = c.loop-node.invariant f h e in
    walk_off w _ (rw c.in-Some.is at c.first_node.ensures.value w.over w.shaped w.bytes)
    (sym c.same_branch.ensures ∙ c.if-not-same_branch.false)
    (sym c.agrees.ensures ∙ c.if-not-agrees.true)

pub slice_bounds-v-count : goal.slice_bounds-v-count
slice_bounds-v-count c = (longer c).0

pub slice_bounds-v-start : goal.slice_bounds-v-start
slice_bounds-v-start c = (longer c).0

pub slice_bounds-p-count : goal.slice_bounds-p-count
slice_bounds-p-count c = (longer (goal.at.slice_bounds-p-count c).Else-not-agrees).1

pub slice_bounds-p-start : goal.slice_bounds-p-start
slice_bounds-p-start c = (longer (goal.at.slice_bounds-p-start c).Else-not-agrees).1

pub returns-in-Leaf : goal.returns-in-Leaf
returns-in-Leaf c =
    λ f h e. let w = c.loop-node.invariant f h e in
    walk_leaf w _ (rw c.in-Some.is at c.first_node.ensures.value w.over w.shaped w.bytes)
    (sym c.same_branch.ensures ∙ c.if-not-same_branch.false)
    (sym c.agrees.ensures ∙ c.if-not-agrees.false)
    (rw c.kind.ensures at c.in-Leaf.is) _ c.has_suffix.ensures

pub loop-node-preserved : goal.loop-node-preserved
loop-node-preserved c =
    λ f h e. let w = c.loop-node.invariant f h e in
    walk_down w _ (rw c.in-Some.is at c.first_node.ensures.value w.over w.shaped w.bytes)
    (sym c.same_branch.ensures ∙ c.if-not-same_branch.false)
    (sym c.agrees.ensures ∙ c.if-not-agrees.false)
    c.in-Inner.dimension (rw c.kind.ensures at c.in-Inner.is)

pub returns : goal.returns
returns c =
    λ f h e. let w = c.loop-node.invariant f h e in
    let n : c.first_node.result ≡ None = search rules in
    walk_end w (rw n at c.first_node.ensures.value w.over w.shaped w.bytes)
