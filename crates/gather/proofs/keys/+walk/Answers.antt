-- Entered or not, the walk goes on behind a node.
use mathlib.Core.Path.{refl, ◌∙◌}
use Rattle.trie_read.specs.Kinds.{kind_of_byte}
use Rattle.gather.proofs.Turning.{going_start, nothing_walked, siblings_done, siblings_in, siblings_past, leaf_walked, inner_walked, fewer}
use Rattle.gather.proofs.Splitting.{low_visits}
use Rattle.gather.proofs.keys.+walk.Goals as goal

pub returns-then-below-eq-NODE_LIMIT-clause-walked : goal.returns-then-below-eq-NODE_LIMIT-clause-walked
returns-then-below-eq-NODE_LIMIT-clause-walked g t c = nothing_walked (low_visits c.if-below-eq-NODE_LIMIT.true)

pub loop-node-init : goal.loop-node-init
loop-node-init g t c = rw c.into_iter-node-iterator.ensures.into_iter_gives record { going = going_start; way = refl }

pub loop-node-preserved-in-Leaf : goal.loop-node-preserved-in-Leaf
loop-node-preserved-in-Leaf g t c =
    let i = c.loop-node.invariant in
    let y = c.in-Some.node in
    let stands = rw c.in-Some.is at c.next.ensures.steps.inside in
    let down = rw c.in-Some-descend.is at c.descend.ensures in
    record {
      going = rw stands.1
          (siblings_in i.going c.next.ensures.steps.value y c.in-Some.is stands.0.long down i.way (leaf_walked (kind_of_byte y.byte) (rw c.kind.ensures at c.in-Leaf.is) c.suffixes.ensures));
      way = down.way_kept ∙ i.way;
    }

pub loop-node-preserved-in-Inner : goal.loop-node-preserved-in-Inner
loop-node-preserved-in-Inner g t c =
    let i = c.loop-node.invariant in
    let y = c.in-Some.node in
    let stands = rw c.in-Some.is at c.next.ensures.steps.inside in
    let down = rw c.in-Some-descend.is at c.descend.ensures in
    record {
      going = rw stands.1
          (siblings_in i.going c.next.ensures.steps.value y c.in-Some.is stands.0.long down i.way (inner_walked (kind_of_byte y.byte) _ (rw c.kind.ensures at c.in-Inner.is) c.walk.ensures.walked));
      way = fewer c.args.below.nodes _ _ (rw down.is.one_more at c.walk.ensures.way_kept) ∙ down.way_kept ∙ i.way;
    }

pub loop-node-preserved : goal.loop-node-preserved
loop-node-preserved g t c =
    let i = c.loop-node.invariant in
    let stands = rw c.in-Some.is at c.next.ensures.steps.inside in
    let down = rw c.in_default.is at c.descend.ensures in
    record {
      going = rw stands.1 (siblings_past i.going c.next.ensures.steps.value c.in-Some.node c.in-Some.is stands.0.long c.told-key down);
      way = down.way_kept ∙ i.way;
    }

pub returns-clause-walked : goal.returns-clause-walked
returns-clause-walked g t c = siblings_done c.loop-node.invariant.going c.next.ensures.steps.value c.in-None.is
