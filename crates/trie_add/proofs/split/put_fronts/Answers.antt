-- The second front right behind the first.
use native.Mathlib.Omega.{arith}
use Prim.Native.Nat.{ℕ, ◌+◌, ◌-◌}
use mathlib.Core.Path.{ap, ap₂, ◌∙◌}
use mathlib.Core.List.{List, [], ◌∷◌}
use lib.ListN.{take, drop}
use lib.Seq.{length-take-le}
use Rattle.buffer.specs.Splice.{splice}
use Rattle.buffer.proofs.Splice.{splice_then}
use Rattle.trie_read.specs.Kinds.{byte_of_kind}
use Rattle.trie_read.specs.declared.kind.Kind.TheVariants.{Inner}
use Rattle.trie_read.specs.Heads.{front}
use Rattle.trie_read.specs.Shape.{part}
use Rattle.trie_read.proofs.Node.{length_front}
use Rattle.trie_read.proofs.Stretch.{length_part, part_from}
use Rattle.trie_add.proofs.split.put_fronts.Goals as goal

pub returns : goal.returns
returns c =
    let a = c.args in
    let n = a.node.now in
    let s = a.s.now in
    let cut = a.cut in
    let v = part (n.at + 7) n.path s in
    let p = part n.path n.body s in
    let lv = length_part s (n.at + 7) n.path (omega (arith, c.requires, n.body_behind, n.next_behind)) in
    let lp = length_part s n.path n.body (omega (arith, c.requires, n.next_behind)) in
    let one = front (byte_of_kind (Inner cut.dimension)) (take cut.value v ∷ take cut.path p ∷ []) a.size in
    let two = front (byte_of_kind n.kind) (drop cut.value v ∷ drop cut.path p ∷ []) (n.next - n.body) in
    let l = length_front (byte_of_kind (Inner cut.dimension)) (take cut.value v ∷ take cut.path p ∷ []) a.size in
    let la = length-take-le cut.value v (omega (arith, lv, c.requires)) in
    let lb = length-take-le cut.path p (omega (arith, lp, c.requires)) in
    let left = ap₂ (λ (x y : List ℕ). x ∷ y ∷ []) (part_from v cut.value) (part_from p cut.path) in
    let second = c.put_front-2.ensures ∙ ap (λ (xs : List (List ℕ)). splice c.put_front.new.s (7 + cut.value + cut.path) (front (byte_of_kind n.kind) xs (n.next - n.body))) left in
    second ∙ splice_then _ a.new.now 0 one _ two c.put_front.ensures (omega (arith, la, lb, l)) (omega (arith, la, lb, l))
