-- Five writes side by side are one splice.
use native.Mathlib.Omega.{arith}
use Prim.Native.Nat.{ℕ}
use mathlib.Core.Path.{◌≡◌, ap, ◌∙◌}
use mathlib.Core.List.{List, [], ◌∷◌, ◌++◌, append_assoc, append-nil}
use lib.ListN.{length, length-append}
use Rattle.buffer.specs.Splice.{splice}
use Rattle.buffer.proofs.Splice.{splice_then}
use Rattle.buffer.proofs.Turns.{set_2}
use Rattle.buffer.specs.Lists.{flat}
use Rattle.trie_theory.specs.Encode.{suffix_bytes}
use Rattle.trie_read.specs.Shape.{key_of}
use Rattle.trie_write.proofs.write.put_suffix.Goals as goal

suffix_parts : (v p r : List ℕ) → (((length v ∷ length p ∷ []) ++ r) ++ v) ++ p ≡ suffix_bytes (key_of v p r)
unfolding suffix_bytes flat
suffix_parts v p r = simp (append_assoc, append-nil)

pub returns : goal.returns
returns c =
    let a = c.args in
    let s = a.s.now in
    let v = a.value.now in
    let p = a.path.now in
    let r = a.reference.now in
    let two = length v ∷ length p ∷ [] in
    let lr = length-append two r in
    let lv = length-append (two ++ r) v in
    let head = set_2 s a.at (length v) (length p) (omega arith) in
    let named = c.copy_from.ensures ∙ splice_then _ s a.at two _ r head (omega arith) (omega arith) in
    let valued = c.copy_from-2.ensures ∙ splice_then _ s a.at (two ++ r) _ v named (omega arith) (omega arith) in
    c.copy_from-3.ensures ∙ splice_then _ s a.at ((two ++ r) ++ v) _ p valued (omega arith) (omega arith) ∙ ap (splice s a.at) (suffix_parts v p r)
