-- Sorted, built, and the rest cleared.
use native.Mathlib.Omega.{arith}
use mathlib.Core.Path.{◌∙◌}
use Prim.Native.Nat.{◌*◌, ◌≤◌}
use Rattle.store_overflow.specs.Steps.{slots_at}
use Rattle.store_overflow.proofs.LevelBytes.{sorts, same_long, short_now, trie_fits, merged}
use Rattle.store_overflow.proofs.merging.merge.Goals.{After-clear-arg-1}
use Rattle.store_overflow.proofs.merging.merge.Goals as goal

-- the trie ends before the slots
used : (c : After-clear-arg-1) → c.build_level-used.result ≤ 245 * c.args.n
used c =
    let a = c.args in
    let p = c.requires in
    let first = sorts a.s.now (slots_at a.base a.size) a.n (omega arith) c.sort.ensures in
    omega (arith, trie_fits a.s.now _ a.s.now a.base a.size a.n a.tau 0 p.0 p.2 p.3 first, c.build_level-used.ensures.1)

pub build_level-used-requires : goal.build_level-used-requires
build_level-used-requires c =
    let a = c.args in
    let p = c.requires in
    let first = sorts a.s.now (slots_at a.base a.size) a.n (omega arith) c.sort.ensures in
    let long = same_long a.s.now _ a.s.now a.base a.size a.n a.tau 0 p.0 p.2 p.3 first in
    (short_now a.s.now _ a.s.now a.base a.size a.n a.tau 0 p.0 p.2 p.3 first, omega arith, omega arith, omega arith, omega arith)

pub overflow_sub-size : goal.overflow_sub-size
overflow_sub-size c = omega (arith, used c)

pub returns : goal.returns
returns c =
    let a = c.args in
    let p = c.requires in
    let first = sorts a.s.now (slots_at a.base a.size) a.n (omega arith) c.sort.ensures in
    let built = c.build_level-used.ensures in
    c.clear.ensures ∙ merged a.s.now _ _ a.base a.size a.n a.tau _ p.0 p.2 p.3 first built.0 built.1
