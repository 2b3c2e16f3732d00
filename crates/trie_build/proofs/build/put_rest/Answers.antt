-- What remains of the key's strings are stretches of the slot.
use native.Mathlib.Omega.{arith}
use Prim.Native.Nat.{◌+◌, ◌-◌}
use mathlib.Core.Path.{◌≡◌}
use lib.ListN.{get_or}
use Rattle.rows.specs.Sizes.{length_at}
use Rattle.trie_build.proofs.Suffixes as law
use Rattle.trie_build.proofs.build.put_rest.Goals as goal

pub put_suffix-requires : goal.put_suffix-requires
put_suffix-requires c =
    let a = c.args in
    let r = a.slot.now in
    let b = c.requires.0 in
    let m = a.shared.value_fits in
    let count : 29 + (c.from-ends.result + 1) - (29 + a.shared.path) ≡ get_or r length_at 0 + 1 - a.shared.path = omega (arith, c.from-ends.ensures) in
    let lv = law.value_long r a.shared.value a.shared.path c.told-slot m b in
    let lp = law.path_long r a.shared.value a.shared.path c.told-slot m b in
    let lr = law.reference_long r a.shared.value a.shared.path c.told-slot m b in
    let l = law.length_rest r a.shared.value a.shared.path c.told-slot m b in
    rw (count, lv, lp, lr) (omega (arith, c.requires.1), omega arith, omega (arith, b.1))

pub returns : goal.returns
returns c =
    let a = c.args in
    let r = a.slot.now in
    let b = c.requires.0 in
    let m = a.shared.value_fits in
    let count : 29 + (c.from-ends.result + 1) - (29 + a.shared.path) ≡ get_or r length_at 0 + 1 - a.shared.path = omega (arith, c.from-ends.ensures) in
    let lv = law.value_long r a.shared.value a.shared.path c.told-slot m b in
    let lp = law.path_long r a.shared.value a.shared.path c.told-slot m b in
    let l = law.length_rest r a.shared.value a.shared.path c.told-slot m b in (
      rw (law.rest_is r a.shared.value a.shared.path c.told-slot m b) (rw count at c.put_suffix.ensures),
      rw (count, lv, lp, l) (omega arith),
    )
