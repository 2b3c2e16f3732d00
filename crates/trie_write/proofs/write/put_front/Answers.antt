-- Six writes side by side are one splice.
use native.Mathlib.Omega.{arith}
use mathlib.Core.Path.{◌≡◌, ap, ◌∙◌}
use mathlib.Core.List.{List, [], ◌∷◌, ◌++◌, append_assoc}
use lib.ListN.{length, length-append}
use Rattle.buffer.specs.Splice.{splice}
use Rattle.buffer.specs.Numbers.{bytes_of}
use Rattle.buffer.proofs.Splice.{splice_then}
use Rattle.buffer.proofs.Turns.{set_3}
use Rattle.buffer.proofs.Digits.{length_bytes_of}
use Rattle.trie_read.specs.Heads.{front}
use Prim.Native.Nat.{ℕ}
use Rattle.trie_write.proofs.write.put_front.Goals as goal

front_parts : (k : ℕ) (v p : List ℕ) (n : ℕ) → (((k ∷ length v ∷ length p ∷ []) ++ bytes_of 4 n) ++ v) ++ p ≡ front k (v ∷ p ∷ []) n
unfolding front
front_parts k v p n = simp append_assoc

pub returns : goal.returns
returns c =
    let a = c.args in
    let s = a.s.now in
    let v = a.value.now in
    let p = a.path.now in
    let k = c.from.result in
    let three = k ∷ length v ∷ length p ∷ [] in
    let seven = three ++ bytes_of 4 a.size in
    let l7 = length-append three (bytes_of 4 a.size) in
    let l4 = length_bytes_of 4 a.size in
    let lv = length-append seven v in
    let head = set_3 s a.at k (length v) (length p) (omega arith) in
    let sized = c.put32.ensures ∙ splice_then _ s a.at three _ _ head (omega arith) (omega arith) in
    let valued = c.copy_from.ensures ∙ splice_then _ s a.at seven _ v sized (omega arith) (omega arith) in
    c.copy_from-2.ensures ∙ splice_then _ s a.at (seven ++ v) _ p valued (omega arith) (omega arith) ∙ ap (splice s a.at) (front_parts k v p a.size ∙ ap (λ (b : ℕ). front b (v ∷ p ∷ []) a.size) c.from.ensures)
