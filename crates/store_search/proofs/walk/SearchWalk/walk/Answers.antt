-- Each turn adds what is found in one trie (`searched_next`).
use native.Mathlib.Omega.{arith}
use Prim.Native.Nat.{◌+◌}
use mathlib.Core.Path.{◌≡◌, refl, ◌∙◌}
use borrow.Author.Rules.{rules}
use Rattle.store_search.proofs.Found.{trie_few, searched_none, searched_next}
use Rattle.store_search.proofs.Listings.{walked}
use Rattle.store_search.proofs.walk.SearchWalk.walk.Goals.{else-loop-k-test, then-loop-k-test+else-k-k-end}
use Rattle.store_search.proofs.walk.SearchWalk.walk.Goals as goal

pub loop-k-init : goal.loop-k-init
loop-k-init c = record { room = refl; same_reference = refl; found = searched_none _ _ _ _ _ _ }

pub loop-k-preserved : goal.loop-k-preserved
loop-k-preserved c =
    let o = c.args.self.now.store in
    let i = c.loop-k.invariant in
    let part = c.trie.ensures in
    let w = c.search_trie-nodes.ensures in
    record {
      room = w.room ∙ i.room;
      same_reference = w.same_reference ∙ i.same_reference;
      found = searched_next i.found i.room part w (omega arith) (trie_few part o.front.m_high o.front.l_high o.whole) c.requires;
    }

pub returns : goal.returns
returns c =
    let o = c.args.self.now.store in
    let i = c.loop-k.invariant in
    elim c.loop-k-test.branch [
      | else-loop-k-test w ↦ absurd (omega arith)
      | then-loop-k-test+else-k-k-end w ↦
          let part = w.trie.ensures in
          let r = w.search_trie-nodes.ensures in
          let e : c.loop-k.k + 1 ≡ o.front.l + 1 = omega arith in
          rw w.output-is
          (walked (rw e at (searched_next i.found i.room part r (omega arith) (trie_few part o.front.m_high o.front.l_high o.whole) c.requires)) (search (rules, r.same_reference, i.same_reference)) w.nodes-is)
    ]
