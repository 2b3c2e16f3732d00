-- The front, and the suffix right behind it.
use native.Mathlib.Omega.{arith}
use mathlib.Core.Path.{sym, ap, ◌∙◌}
use mathlib.Core.List.{[], ◌∷◌, ◌++◌, append-nil}
use Rattle.buffer.specs.Splice.{splice}
use Rattle.buffer.proofs.Splice.{splice_then}
use Rattle.trie_theory.specs.Forest.{none}
use Rattle.trie_theory.specs.Encode.{encode, suffix_bytes}
use Rattle.trie_read.specs.Shape.{key_of}
use Rattle.trie_read.specs.Heads.{front}
use Rattle.trie_read.proofs.Node.{length_front}
use Rattle.trie_write.proofs.NewLeaf.{new_leaf_bytes}
use Rattle.trie_write.proofs.write.put_leaf.Goals as goal

pub returns : goal.returns
unfolding encode
returns c =
    let a = c.args in
    let s = a.s.now in
    let k = a.key.now in
    let v = k.value.now in
    let p = k.path.now in
    let r = k.reference.now in
    let first = front 0 (v ∷ p ∷ []) 22 in
    let l = length_front 0 (v ∷ p ∷ []) 22 in
    let last = suffix_bytes (key_of [] [] r) in
    c.put_suffix.ensures
    ∙ splice_then _ s a.at first _ last c.put_front.ensures (omega arith) (omega arith)
    ∙ ap (splice s a.at) (ap (first ++◌) (sym (append-nil last)) ∙ sym (new_leaf_bytes v p r none k.twenty))
