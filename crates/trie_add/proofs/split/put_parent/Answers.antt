-- The fronts in the place of the node's.
use native.Mathlib.Omega.{arith}
use Prim.Native.Nat.{◌+◌, ◌-◌}
use mathlib.Core.Path.{◌≡◌}
use lib.ListN.{replicate}
use Rattle.buffer.specs.Splice.{splice}
use Rattle.trie_read.specs.Kinds.{byte_of_kind}
use Rattle.trie_read.specs.declared.kind.Kind.TheVariants.{Inner}
use Rattle.trie_read.specs.Shape.{part}
use Rattle.trie_read.proofs.Stretch.{length_part}
use Rattle.trie_add.proofs.Fronts.{fronts, length_fronts, written}
use Rattle.trie_add.proofs.split.put_parent.Goals as goal

pub returns : goal.returns
unfolding fronts
returns c =
    let a = c.args in
    let n = a.node.now in
    let s = a.s.now in
    let pre = c.requires in
    let nv = part (n.at + 7) n.path s in
    let np = part n.path n.body s in
    let lv = length_part s (n.at + 7) n.path (omega (arith, pre.room, n.body_behind, n.next_behind)) in
    let lp = length_part s n.path n.body (omega (arith, pre.room, n.next_behind)) in
    let up = byte_of_kind (Inner a.cut.dimension) in
    let f = fronts a.cut.value a.cut.path up a.size nv np (byte_of_kind n.kind) (n.next - n.body) in
    let l = length_fronts a.cut.value a.cut.path up a.size nv np (byte_of_kind n.kind) (n.next - n.body) (omega (arith, lv, pre.inside)) (omega (arith, lp, pre.inside)) in
    let put = c.put_fronts.ensures in
    let new : part 0 (n.body - n.at + 7) (splice (replicate 524 0) 0 f) ≡ f = written (replicate 524 0) f (n.body - n.at + 7) (omega (arith, l, lv, lp, n.path_behind, n.body_behind)) (omega (arith, l, lv, lp, n.path_behind, n.body_behind, n.value_short, n.path_short)) in
    rw (put, new) at c.replace_front.ensures
