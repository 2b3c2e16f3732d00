-- The suffixes that are passed are not the key.
use mathlib.Core.Path.{sym, ◌∙◌}
use Rattle.trie_read.proofs.Among.{among_end, among_found, among_next}
use Rattle.trie_read.proofs.suffixes.has_suffix.Goals as goal

pub returns-then-is : goal.returns-then-is
returns-then-is c =
    λ ts a e. let l = c.loop-suffix.invariant ts a e in
    among_found l _ (rw c.in-Some.is at c.next.ensures.steps.value l.left l.fixed l.bytes) (sym c.is.ensures ∙ c.if-is.true)

pub loop-suffix-preserved : goal.loop-suffix-preserved
loop-suffix-preserved c =
    λ ts a e. let l = c.loop-suffix.invariant ts a e in
    let left = rw c.in-Some.is at c.next.ensures.steps.within in
    rw left.1 (among_next l _ (rw c.in-Some.is at c.next.ensures.steps.value l.left l.fixed l.bytes) (sym c.is.ensures ∙ c.if-is.false))

pub returns : goal.returns
returns c =
    λ ts a e. let l = c.loop-suffix.invariant ts a e in
    among_end l (rw c.in-None.is at c.next.ensures.steps.value l.left l.fixed l.bytes)
