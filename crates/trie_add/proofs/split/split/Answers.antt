-- The fronts, then the leaf into its place.
use native.Mathlib.Omega.{arith}
use Prim.Native.Nat.{ℕ, ◌+◌, ◌-◌, ◌≤◌}
use mathlib.Core.Path.{◌≡◌, refl, sym, ap, ◌∙◌}
use mathlib.Core.Bool.{cond}
use mathlib.Core.List.{List}
use lib.ListN.{length, drop, length-drop}
use Rattle.buffer.specs.Splice.{region}
use Rattle.buffer.proofs.Splice.{length_region}
use Rattle.trie_read.specs.Shape.{part, above_of}
use Rattle.trie_read.proofs.Stretch.{length_part}
use Rattle.trie_add.proofs.Fronts.{fronts}
use Rattle.trie_add.proofs.Splitting.{split_done, resized}
use Rattle.trie_read.specs.Kinds.{byte_of_kind}
use Rattle.trie_read.proofs.KindBytes.{byte_back, inner_number}
use Rattle.trie_add.proofs.split.split.Goals.{After-put_parent, then-cut, else-cut}
use Rattle.trie_add.proofs.split.split.Goals as goal

split_length : (s : List ℕ) (n : ℕ) → n ≤ length s → length s ≡ n + length (drop n s)
split_length s n h = omega (arith, length-drop n s)

-- the new parent's body: the node without what it has in common with the key, and the leaf
size_is : (at path next a b nv np body v p nv' np' : ℕ) → nv ≡ a + nv' → np ≡ b + np' → path ≡ at + (7 + nv + np) → next ≡ path + body
    → next + (29 + (v + p)) - (at + (a + b)) ≡ 7 + nv' + np' + body + (29 + v + p)
size_is at path next a b nv np body v p nv' np' e f k l = omega arith

-- where the leaf goes
placed : (c : After-put_parent) → c.if-cut.place ≡ cond c.cut_for-cut.result.first (c.args.node.now.at + 7 + (c.cut_for-cut.result.value + c.cut_for-cut.result.path)) (c.args.node.now.next + 7)
placed c =
    elim c.if-cut.branch [
      | then-cut w ↦ rw w.if-cut.true w.place-is
      | else-cut w ↦ rw w.if-cut.false w.place-is
    ]

pub returns-clause-replaced : goal.returns-clause-replaced
unfolding fronts
returns-clause-replaced c =
    let a = c.args in
    let pre = c.requires in
    let n = a.node.now in
    let k = a.key.now in
    let s = a.s.now in
    let cut = c.cut_for-cut.ensures in
    let x = c.cut_for-cut.result.value in
    let y = c.cut_for-cut.result.path in
    let left = c.rest-left.ensures in
    let nv = part (n.at + 7) n.path s in
    let np = part n.path n.body s in
    let body = region s n.body (n.next - n.body) in
    let lv = length_part s (n.at + 7) n.path (omega (arith, pre, n.body_behind, n.next_behind)) in
    let lp = length_part s n.path n.body (omega (arith, pre, n.next_behind)) in
    let lb = length_region s n.body (n.next - n.body) (omega (arith, pre, n.next_behind)) in
    let dv = length-drop x k.value.now in
    let dp = length-drop y k.path.now in
    let inserted = rw (left.0, left.1, left.2) at c.insert.ensures.s_after in
    let long = rw (left.0, left.1) at c.size-n.ensures in
    resized
    (split_done (above_of a.above) (byte_of_kind n.kind) nv np body k.value.now k.path.now k.reference.now k.twenty x y cut.in_value cut.in_path
    s _ _ n.at n.body n.next a.used (omega (arith, n.path_behind, n.body_behind), n.next_behind, pre.0, omega (arith, pre, cut, dv, dp)) refl (omega (arith, lv, lp, n.path_behind, n.body_behind)) cut.node_value cut.node_path
    _ _ _ (ap byte_of_kind cut.branches ∙ byte_back _)
    (rw long (size_is n.at n.body n.next x y (length nv) (length np) (length body) _ _ _ _ (split_length nv x cut.node_value) (split_length np y cut.node_path) (omega (arith, lv, lp, n.path_behind, n.body_behind)) (omega (arith, lb, n.next_behind))))
    (sym lb) c.put_parent.ensures c.cut_for-cut.result.dimension (inner_number _ _ (sym cut.branches)) _ _ cut.before (placed (goal.at.returns-clause-replaced c).After-put_parent) inserted)
    (omega (arith, long))
