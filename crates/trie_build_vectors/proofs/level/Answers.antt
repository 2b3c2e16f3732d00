-- Short paths are what the builder asks for.
use native.Mathlib.Omega.{arith}
use Prim.Native.Nat.{◌*◌, ◌+◌, ◌-◌}
use mathlib.Core.Path.{◌≡◌, sym, ◌∙◌}
use lib.ListN.{length, take, drop, length-drop}
use lib.Seq.{length-take-le}
use Rattle.trie_sets.proofs.Slotted.{short_region, slots_even}
use Rattle.trie_build_vectors.proofs.level.Goals as goal

pub print_split-requires : goal.print_split-requires
print_split-requires c =
    let a = c.args in
    let l : length (take (8192 + a.n * 256 - 8192) (drop 8192 a.s.now)) ≡ a.n * 256 =
    length-take-le (8192 + a.n * 256 - 8192) (drop 8192 a.s.now) (rw length-drop (omega (arith, c.told-s))) ∙ omega arith in
    (omega (arith, slots_even _ a.n l), c.requires.1, sym c.paths_are_short.ensures ∙ c.if-not-paths_are_short.false)

pub build_level-size-requires : goal.build_level-size-requires
build_level-size-requires c =
    let a = c.args in
    let p = short_region a.n (8192 + a.n * 256 - 8192) (drop 8192 a.s.now) (omega arith) (rw length-drop (omega (arith, c.told-s))) in
    (sym p ∙ sym c.paths_are_short.ensures ∙ c.if-not-paths_are_short.false, omega arith, omega arith, omega (arith, c.told-s), omega arith)
