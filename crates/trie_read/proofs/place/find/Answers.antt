-- The siblings that are passed have lesser branching bytes (`Seek`), and what is left is shorter: the end of the tries.
use native.Mathlib.Omega.{arith}
use Prim.Native.Nat.{◌+◌, ◌-◌, ◌<◌}
use mathlib.Core.Path.{◌≡◌, refl, sym, ap, ◌∙◌}
use lib.ListN.{length}
use Rattle.std.specs.Prelude.{Some, None, Ok}
use Rattle.std.proofs.Common.{rules}
use Rattle.trie_read.specs.Heads.{Stands, head_in}
use Rattle.trie_read.proofs.Node.{told_none, told_some}
use Rattle.trie_read.proofs.Seeking.{between, seek_start, seek_end, seek_found, seek_gap, seek_past, rest_at}
use Rattle.trie_read.proofs.place.find.Goals.{In-Some}
use Rattle.trie_read.proofs.place.find.Goals as goal

read : (c : In-Some) → c.read_head.result ≡ Ok (Some c.in-Some.node)
read c = c.in_ok-node.was ∙ ap Ok c.in-Some.is

stands : (c : In-Some) → Stands c.loop-node.t.now c.in-Some.node
stands c = rw (read c) at c.read_head.ensures.inside

pub loop-node-init : goal.loop-node-init
loop-node-init c =
    let z : length c.args.tries.now - length c.args.tries.now ≡ 0 = omega arith in
    rw z (omega arith, refl, λ f h a e. seek_start _ _ _ f h a e)

pub returns-then-own-byte-clause-found : goal.returns-then-own-byte-clause-found
returns-then-own-byte-clause-found c =
    let l = c.loop-node in
    let i = (goal.at.returns-then-own-byte-clause-found c).In-Some in
    λ f h a e. let s = l.invariant.2 f h a e in
    rw c.kind.ensures
    (seek_found s (head_in c.in-Some.node) (told_some _ (c.read_head.ensures.value s.passed.over s.passed.shaped s.left) c.in-Some.node (read i))
    (sym c.branch_byte-own.ensures ∙ c.if-own-byte.true ∙ c.branch_byte-byte.ensures) _ _ _ (between _ _ c.in-Some.node l.invariant.0 l.invariant.1 (stands i)))

pub returns-then-byte-own-clause-found : goal.returns-then-byte-own-clause-found
returns-then-byte-own-clause-found c =
    let l = c.loop-node in
    let i = (goal.at.returns-then-byte-own-clause-found c).In-Some in
    λ f h a e. let s = l.invariant.2 f h a e in
    seek_gap s (head_in c.in-Some.node) (told_some _ (c.read_head.ensures.value s.passed.over s.passed.shaped s.left) c.in-Some.node (read i))
    (rw (← c.branch_byte-own.ensures, ← c.branch_byte-byte.ensures) c.if-byte-own.true)

pub loop-node-preserved : goal.loop-node-preserved
loop-node-preserved c =
    let l = c.loop-node in
    let i = (goal.at.loop-node-preserved c).In-Some in
    let n = c.in-Some.node in
    let t = c.args.tries.now in
    let k = stands i in
    let less : c.branch_byte-own.result < c.branch_byte-byte.result = omega (arith, c.if-own-byte.false, c.if-byte-own.false) in
    let next : length t - length n.rest.now ≡ length t - length l.t.now + (7 + length n.value.now + length n.path.now + length n.body.now) = omega (arith, k.long, l.invariant.0) in (
      omega (arith, k.long, l.invariant.0),
      rest_at _ _ n l.invariant.0 l.invariant.1 k,
      λ f h a e. let s = l.invariant.2 f h a e in
          seek_past s (head_in n) (told_some _ (c.read_head.ensures.value s.passed.over s.passed.shaped s.left) n (read i)) _ next (rw (← c.branch_byte-own.ensures, ← c.branch_byte-byte.ensures) less),
    )

pub returns-clause-found : goal.returns-clause-found
returns-clause-found c =
    let l = c.loop-node in
    let n : c.read_head.result ≡ Ok None = c.in_ok-node.was ∙ ap Ok (search rules) in
    let z : length l.t.now ≡ 0 = rw n at c.read_head.ensures.inside in
    let at : length c.args.tries.now ≡ length c.args.tries.now - length l.t.now = omega arith in
    λ f h a e. let s = l.invariant.2 f h a e in
    seek_end s _ at (told_none _ (c.read_head.ensures.value s.passed.over s.passed.shaped s.left) n)
