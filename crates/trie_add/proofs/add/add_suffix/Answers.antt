-- The suffix at the end of the body, then the length.
use native.Mathlib.Omega.{arith}
use mathlib.Core.Path.{sym, ◌∙◌}
use Rattle.trie_write.specs.Keys.{spelled}
use Rattle.trie_write.proofs.NewLeaf.{length_suffix_bytes}
use Rattle.trie_add.proofs.Adding.{leaf_grown}
use Rattle.trie_add.proofs.add.add_suffix.Goals as goal

pub returns : goal.returns
returns c =
    let a = c.args in
    let k = a.key.now in
    let p = a.node.now in
    let pre = c.requires.room in
    let n = length_suffix_bytes k.value.now k.path.now k.reference.now k.twenty in
    let put = c.insert-n.ensures in
    λ depth. record {
      little = omega (arith, put.value);
      are = λ f above w asc h z no e b.
          leaf_grown a.s.now _ _ p.at p.body p.next a.used _ (spelled k) f w (sym c.requires.leaf ∙ z) no e b (omega (arith, p.path_behind, p.body_behind)) p.next_behind pre.0 (omega (arith, pre, put.value)) (put.value ∙ sym n) put.s_after c.put32.ensures;
    }
