-- The first node of what is left lies in it; entered or not, the walk goes on behind it.
use Rattle.search.proofs.Steps.{common_kept}
use Rattle.search.proofs.Finding.{going_start, going_done}
use Rattle.search.proofs.Siblings.{tries_end, siblings_in, siblings_done, siblings_past, body_suffixes, body_tries, tries_low}
use Rattle.search.proofs.walk.+search.Goals as goal

pub search_body-returns-in-Leaf : goal.search_body-returns-in-Leaf
search_body-returns-in-Leaf t c = body_suffixes c.args.depth (rw c.kind.ensures at c.in-Leaf.is) c.suffixes.ensures

pub search_body-returns-in-Inner : goal.search_body-returns-in-Inner
search_body-returns-in-Inner t c = body_tries (rw c.kind.ensures at c.in-Inner.is) c.search_tries.ensures

pub search_tries-returns-then-depth-eq0 : goal.search_tries-returns-then-depth-eq0
search_tries-returns-then-depth-eq0 t c = tries_low c.if-depth-eq0.true

pub search_tries-loop-node-init : goal.search_tries-loop-node-init
search_tries-loop-node-init t c = rw c.into_iter-node-iterator.ensures.into_iter_gives (going_start c.told-key)

pub search_tries-descend-requires : goal.search_tries-descend-requires
search_tries-descend-requires t c = common_kept c.ask_once-common.ensures c.loop-node.invariant.finding.rows.kept

pub search_tries-returns-then-common : goal.search_tries-returns-then-common
search_tries-returns-then-common t c =
    let stands = rw c.in-Some.is at c.next.ensures.steps.inside in
    siblings_done c.args.above c.args.known c.loop-node.invariant c.next.ensures.steps.value c.in-Some.node c.in-Some.is stands.0.long (rw c.in-Some-descend.is at c.descend.ensures)
    c.search_body.array_long c.search_body.ensures (c.ask_once-common.ensures.single c.if-common.true)

pub search_tries-loop-node-preserved-else-common : goal.search_tries-loop-node-preserved-else-common
search_tries-loop-node-preserved-else-common t c =
    let stands = rw c.in-Some.is at c.next.ensures.steps.inside in
    rw stands.1
    (siblings_in c.args.above c.args.known c.loop-node.invariant c.next.ensures.steps.value c.in-Some.node c.in-Some.is stands.0.long (rw c.in-Some-descend.is at c.descend.ensures) c.search_body.array_long c.search_body.ensures)

pub search_tries-loop-node-preserved : goal.search_tries-loop-node-preserved
search_tries-loop-node-preserved t c =
    let stands = rw c.in-Some.is at c.next.ensures.steps.inside in
    rw stands.1
    (siblings_past c.args.above c.args.known c.loop-node.invariant c.next.ensures.steps.value c.in-Some.node c.in-Some.is stands.0.long (rw c.in_default.is at c.descend.ensures) c.told-key c.descend.array_long)

pub search_tries-returns : goal.search_tries-returns
search_tries-returns t c = going_done c.loop-node.invariant (tries_end c.next.ensures.steps.value c.in-None.is)
