-- What is read of a suffix's first two bytes are its places; bytes that no suffix begins with are no leaf's.
use native.Mathlib.Omega.{arith}
use Prim.Native.Nat.{◌+◌}
use mathlib.Core.Path.{sym, ap, ◌∙◌}
use lib.ListN.{length, take, length-take}
use Rattle.std.specs.Prelude.{Ok}
use Rattle.std.proofs.Common.{eqb-true, false-eqb}
use Rattle.trie_read.proofs.SuffixParts.{read_end, read_long, read_at, suffix_parts_are}
use Rattle.trie_read.proofs.Stretch.{length_part}
use Rattle.trie_read.proofs.suffixes.read_suffix.Goals as goal

pub returns-then-is_empty-clause-value : goal.returns-then-is_empty-clause-value
returns-then-is_empty-clause-value c = λ ts a e. ap Ok (read_end _ ts a e (eqb-true _ _ (sym c.is_empty.ensures ∙ c.if-is_empty.true)))

pub returns-then-b-lt-SUFFIX_SIZE-clause-value : goal.returns-then-b-lt-SUFFIX_SIZE-clause-value
returns-then-b-lt-SUFFIX_SIZE-clause-value c = λ ts a e. absurd (omega (arith, read_long _ ts a e (false-eqb _ _ (sym c.if-is_empty.false ∙ c.is_empty.ensures))))

pub returns-then-b-next-clause-value : goal.returns-then-b-next-clause-value
returns-then-b-next-clause-value c = λ ts a e. absurd (omega (arith, read_long _ ts a e (λ z. omega arith)))

pub returns-clause-within : goal.returns-clause-within
returns-clause-within c =
    let b = c.args.b.now in
    let path = 22 + c.from-path.result in
    let next = path + c.from.result in
    let v = length_part b 22 path (omega arith) in
    let p = length_part b path next (omega arith) in
    let r = length_part b next (length b) (omega arith) in
    record {
      lead = take 2 b;
      is = suffix_parts_are b path next (omega arith) (omega arith) (omega arith);
      lead_long = rw length-take (omega arith);
      reference_long = length_part b 2 22 (omega arith);
      long = omega (arith, v, p, r);
      value_short = omega (arith, v, c.type_inv.b 0, c.from-path.ensures);
      path_short = omega (arith, p, c.type_inv.b 1, c.from.ensures);
    }

pub returns-clause-value : goal.returns-clause-value
returns-clause-value c = λ ts a e. ap Ok (read_at _ ts a e (λ z. omega arith) _ _ (omega arith) (omega arith))
