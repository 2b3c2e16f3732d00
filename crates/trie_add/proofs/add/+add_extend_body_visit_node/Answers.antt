-- One addition, three functions that call each other: `depth` falls.
use native.Mathlib.Omega.{arith}
use mathlib.Core.Path.{◌≡◌, sym, ap, ◌∙◌}
use Rattle.std.specs.Prelude.{Ok}
use Rattle.trie_read.specs.declared.place.Place.TheVariants.{Node, Gap}
use lib.ListN.{length, length-drop}
use Rattle.trie_read.specs.Shape.{part}
use Rattle.trie_read.proofs.Stretch.{length_part}
use Rattle.trie_read.proofs.Walking.{on_lengths}
use Rattle.trie_write.specs.Keys.{spelled}
use Rattle.trie_write.proofs.NewLeaf.{length_new_leaf}
use Rattle.trie_add.proofs.First.{height_some}
use Rattle.trie_add.proofs.Addition.{inner_grown, visit_agrees, visit_differs, added_node, added_gap}
use Prim.Native.Nat.{ℕ, ◌+◌, ◌-◌, ◌≤◌}
use Rattle.trie_add.proofs.add.+add_extend_body_visit_node.Goals.{add-Start, visit_node-Then-agrees}
use Rattle.trie_add.proofs.add.+add_extend_body_visit_node.Goals as goal

-- ---- add
-- the tries end within the slice
long : (t : ℕ) (c : add-Start t) → length (part c.args.off c.args.stop c.args.s.now) ≡ c.args.stop - c.args.off
long t c = length_part c.args.s.now c.args.off c.args.stop (omega (arith, c.requires))

-- ---- visit_node
-- the key is as long as the strings with which it agrees
agreed : (t : ℕ) (c : visit_node-Then-agrees t)
    → (c.args.node.now.path - (c.args.node.now.at + 7) ≤ length c.args.key.now.value.now) × (c.args.node.now.body - c.args.node.now.path ≤ length c.args.key.now.path.now)
agreed t c =
    let a = c.args in
    let s = a.s.now in
    let n = a.node.now in
    let k = a.key.now in
    let l = on_lengths (part (n.at + 7) n.path s) (part n.path n.body s) k.value.now k.path.now (sym c.agrees.ensures ∙ c.if-agrees.true) in
    (omega (arith, l, length_part s (n.at + 7) n.path (omega (arith, c.requires, n.body_behind, n.next_behind))), omega (arith, l, length_part s n.path n.body (omega (arith, c.requires, n.next_behind))))

pub add-returns-in-Node : goal.add-returns-in-Node
add-returns-in-Node t c =
    let q : c.find.result ≡ Ok (Node c.in-Node.node) = c.in-Ok.is ∙ ap Ok c.in-Node.is in
    let l = long t (goal.at.add-returns-in-Node t c).Start in
    let a = c.args in
    let k = a.key.now in
    let pre = c.requires in
    let fits = rw q at c.find.ensures.fits in
    let ad = c.visit_node.ensures in
    record {
      little = ad.little;
      are = λ g w asc h e.
          let here = rw q at (c.find.ensures.found g w asc e) in
          added_node a.s.now a.off a.stop a.used a.above a.depth k.value.now k.path.now k.reference.now pre.0 pre.1
          _ _ c.in-Node.node _ g (omega (arith, pre, ad.little)) h (omega (arith, fits, l, pre)) l c.behind.ensures here ad;
    }

pub add-returns-in-Gap : goal.add-returns-in-Gap
add-returns-in-Gap t c =
    let q : c.find.result ≡ Ok (Gap c.in-Gap.at) = c.in-Ok.is ∙ ap Ok c.in-Gap.is in
    let l = long t (goal.at.add-returns-in-Gap t c).Start in
    let a = c.args in
    let k = a.key.now in
    let pre = c.requires in
    let put = c.insert.ensures in
    let n = length_new_leaf k.value.now k.path.now k.reference.now k.twenty in
    record {
      little = omega (arith, put.value);
      are = λ g w asc h e.
          let passed = rw q at (c.find.ensures.found g w asc e) in
          added_gap a.s.now a.off a.stop a.used a.above a.depth k.value.now k.path.now k.reference.now pre.0 pre.1
          _ _ _ g (omega (arith, pre, put.value)) l (put.value ∙ sym n) passed put.s_after;
    }

-- ---- extend_body
pub extend_body-returns-in_default : goal.extend_body-returns-in_default
extend_body-returns-in_default t c = c.add_suffix.ensures _

pub extend_body-returns-then-depth-eq0 : goal.extend_body-returns-then-depth-eq0
extend_body-returns-then-depth-eq0 t c = record { little = omega arith; are = λ f above w asc h k n e b. absurd (omega (arith, height_some f n, h, c.if-depth-eq0.true)) }

pub extend_body-returns : goal.extend_body-returns
extend_body-returns t c =
    let a = c.args in
    let p = a.node.now in
    let pre = c.requires in
    let ad = c.add-n.ensures in
    record {
      little = ad.little;
      are = λ f above w asc h k n e b.
          inner_grown a.s.now _ _ p.at c.in-Inner.dimension p.body p.next a.used a.depth _ (spelled a.key.now) f above w asc h (sym c.in-Inner.is ∙ k) n e b (omega (arith, p.path_behind, p.body_behind)) p.next_behind pre.0 (omega (arith, pre, ad.little)) ad c.put32.ensures;
    }

-- ---- visit_node
pub visit_node-rest-left-requires : goal.visit_node-rest-left-requires
visit_node-rest-left-requires t c = agreed t (goal.at.visit_node-rest-left-requires t c).Then-agrees

pub visit_node-returns-then-agrees : goal.visit_node-returns-then-agrees
visit_node-returns-then-agrees t c =
    let a = c.args in
    let n = a.node.now in
    let k = a.key.now in
    let pre = c.requires in
    let s = a.s.now in
    let left = c.rest-left.ensures in
    let grown = rw (left.0, left.1, left.2) at c.extend_body.ensures in
    visit_agrees s n a.used a.above a.depth k.value.now k.path.now k.reference.now pre.0
    _ _ _ _ (omega (arith, grown.little, length-drop (n.path - (n.at + 7)) k.value.now, length-drop (n.body - n.path) k.path.now)) (omega (arith, pre)) (sym c.agrees.ensures ∙ c.if-agrees.true)
    (sym (length_part s (n.at + 7) n.path (omega (arith, pre, n.body_behind, n.next_behind)))) (sym (length_part s n.path n.body (omega (arith, pre, n.next_behind)))) grown

pub visit_node-returns : goal.visit_node-returns
visit_node-returns t c =
    let a = c.args in
    let k = a.key.now in
    let pre = c.requires in
    let put = c.split.ensures in
    visit_differs a.s.now a.node.now a.used a.above a.depth k.value.now k.path.now k.reference.now pre.0
    _ _ put.upper_bound (omega (arith, pre)) (sym c.agrees.ensures ∙ c.if-agrees.false) put.replaced
