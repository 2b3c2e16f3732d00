-- The places are tested.
use native.Mathlib.Omega.{arith}
use Prim.Native.Nat.{◌*◌, ◌+◌, ◌-◌}
use mathlib.Core.Path.{sym, ◌∙◌}
use lib.ListN.{drop, length-drop}
use Rattle.trie_sets.proofs.Slotted.{short_region}
use Rattle.bench_build.proofs.bench_level.Goals as goal

pub build_level-requires : goal.build_level-requires
build_level-requires c =
    let a = c.args in
    let p = short_region a.n ((a.n * 256 + a.n * 256) - a.n * 256) (drop (a.n * 256) a.s.now) (omega arith) (rw length-drop (omega arith)) in
    (sym p ∙ sym c.paths_are_short.ensures ∙ c.if-paths_are_short.true, omega arith, omega arith, omega arith, omega arith)
