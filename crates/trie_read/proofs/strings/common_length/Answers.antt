-- The equal pairs that both begin with are counted.
use Rattle.std.proofs.Common.{rules, tests}
use mathlib.Core.Path.{◌≡◌, ◌∙◌}
use Prim.Native.Nat.{ℕ}
use native.Mathlib.Omega.{arith}
use lib.Dec.{eqb}
use lib.ListN.{length}
use Rattle.std.specs.List.{zip}
use Rattle.std.proofs.lemmas.Iterator.{YieldsList-from_slice, YieldsList-from_zip}
use Rattle.std.proofs.lemmas.Iterator.Consumers.{YieldsList-at, count_from_yields_List}
use Rattle.std.proofs.lemmas.Iterator.Search.{YieldsList-from_take_while}
use Rattle.std.proofs.lemmas.List.Folds.{length-prefix_len}
use Rattle.trie_theory.specs.Strings.{common}
use Rattle.trie_read.proofs.Compare.{common_pairs, common_within}
use Rattle.trie_read.proofs.strings.common_length.Goals as goal

pub returns : goal.returns
returns c =
    let a = c.args.a.now in
    let b = c.args.b.now in
    let e : c.count.result ≡ length (common a b) =
    count_from_yields_List c.take_while.result _ c.count.ensures.ran
    (YieldsList-from_take_while _ (λ (p : ℕ × ℕ). eqb p.0 p.1)
    (YieldsList-at c.take_while.ensures.source (YieldsList-from_zip (YieldsList-at c.zip.ensures.first (YieldsList-from_slice a c.iter.ensures.rest)) (YieldsList-from_slice b cc)))
    c.take_while.ensures.closure c.take_while.ensures.done (λ x r q k. search (rules, tests)))
    ∙ length-prefix_len (λ (p : ℕ × ℕ). eqb p.0 p.1) (zip a b) ∙ common_pairs a b in
    let w = common_within a b in (e, omega (arith, e, w.0), omega (arith, e, w.1))
