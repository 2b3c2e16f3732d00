-- Some trie has it, or none.
use Rattle.std.specs.Prelude.{true, false}
use Rattle.std.proofs.Common.{rules, tests, arith}
use mathlib.Core.Path.{refl}
use Rattle.std.proofs.lemmas.Iterator.{YieldsList-from_range, cases_from_any}
use Rattle.store_add.specs.Placed.{InTrie}
use Rattle.trie_write.specs.Keys.{spelled}
use Rattle.store_add.proofs.Looking.{looked}
use Rattle.store_add.proofs.lookup.has_entry.Goals as goal

pub returns : goal.returns
returns c =
    let a = c.args in
    let f = a.store.now.front in
    looked _ _ _ _ _ _ (omega arith) (cases_from_any _ _ _
    (λ k. InTrie f.m f.l k (spelled a.key.now) a.store.now.bytes.now true)
    (λ k. InTrie f.m f.l k (spelled a.key.now) a.store.now.bytes.now false)
    c.any.ensures.ran (YieldsList-from_range 0 _ _ refl refl) (λ x q k. search (rules, tests)) (λ x q k. (search (rules, tests), search (rules, tests))))
