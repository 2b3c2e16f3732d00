-- The front is read, and then the trie of the level, if there is one.
use native.Mathlib.Omega.{arith}
use Rattle.std.proofs.lemmas.Result.{err_from_is_err_and}
use Rattle.store_read.proofs.Promising.{refuses_4, reads_beyond, reads_listed, reads_refused}
use Rattle.store_read.proofs.level.read_level.Goals as goal

pub returns-in_err-store : goal.returns-in_err-store
returns-in_err-store c =
    let o = c.in_err-store.ensures in
    let p = err_from_is_err_and c.from_residual.result c.from_residual.ensures.1 in
    rw (p.1, p.2, o.0) (refuses_4 o.1)

pub returns-then-level-store : goal.returns-then-level-store
returns-then-level-store c = let o = c.in_ok-store.ensures in reads_beyond o.1 o.2 _ _ (omega (arith, c.if-level-store.true))

pub returns-in_err-records : goal.returns-in_err-records
returns-in_err-records c =
    let o = c.in_ok-store.ensures in
    let p = err_from_is_err_and c.from_residual-in_err-records.result c.from_residual-in_err-records.ensures.1 in
    rw (p.1, p.2) (reads_refused o.1 o.2 _ _ _ c.if-level-store.false (rw o.0 at c.trie-trie.ensures) c.in_err-records.ensures)

pub returns : goal.returns
returns c =
    let o = c.in_ok-store.ensures in
    reads_listed o.1 o.2 _ _ _ _ c.if-level-store.false (rw o.0 at c.trie-trie.ensures) c.in_ok-records.ensures
