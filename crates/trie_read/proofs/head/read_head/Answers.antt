-- What is read of a node's first seven bytes is its head; bytes that no node begins with are no trie's.
use native.Mathlib.Omega.{arith}
use Prim.Native.Nat.{◌+◌}
use mathlib.Core.Path.{refl, sym, ap, ◌∙◌}
use lib.ListN.{length, take, length-take}
use Rattle.std.specs.Prelude.{Ok}
use Rattle.std.proofs.Common.{eqb-true, false-eqb}
use Rattle.trie_read.proofs.Node.{as_end, as_node, as_long, parts_are}
use Rattle.trie_read.proofs.Stretch.{length_part}
use Rattle.trie_read.proofs.head.read_head.Goals as goal

pub returns-then-is_empty-clause-value : goal.returns-then-is_empty-clause-value
returns-then-is_empty-clause-value c = λ f h e. ap Ok (as_end _ f h e (eqb-true _ _ (sym c.is_empty.ensures ∙ c.if-is_empty.true)))

pub returns-then-t-lt-HEAD_SIZE-clause-value : goal.returns-then-t-lt-HEAD_SIZE-clause-value
returns-then-t-lt-HEAD_SIZE-clause-value c = λ f h e. absurd (omega (arith, as_long _ f h e (false-eqb _ _ (sym c.if-is_empty.false ∙ c.is_empty.ensures))))

pub returns-then-t-next-clause-value : goal.returns-then-t-next-clause-value
returns-then-t-next-clause-value c = λ f h e. absurd (omega (arith, as_long _ f h e (λ z. omega arith)))

pub returns-clause-inside : goal.returns-clause-inside
returns-clause-inside c =
    let t = c.args.t.now in
    let path = 7 + c.from-path.result in
    let body = path + c.from.result in
    let next = body + c.get32.result in
    let v = length_part t 7 path (omega arith) in
    let p = length_part t path body (omega arith) in
    let b = length_part t body next (omega arith) in
    let r = length_part t next (length t) (omega arith) in
    record {
      lead = take 7 t;
      is = parts_are t path body next (omega arith) (omega arith) (omega arith) (omega arith);
      lead_long = rw length-take (omega arith);
      long = omega (arith, v, p, b, r);
      value_short = omega (arith, v, c.type_inv.t 1, c.from-path.ensures);
      path_short = omega (arith, p, c.type_inv.t 2, c.from.ensures);
    }

pub returns-clause-value : goal.returns-clause-value
returns-clause-value c = λ f h e. ap Ok (as_node _ f h e (λ z. omega arith) _ _ _ _ refl (omega arith) (omega arith) (omega arith))
