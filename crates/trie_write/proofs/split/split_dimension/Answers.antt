-- By how the node above branches.
use mathlib.Core.Path.{◌≡◌, refl}
use Rattle.trie_read.specs.declared.kind.Dimension.TheVariants.{Value, Path, Other}
use Rattle.trie_write.proofs.Differing.{path_wanted, value_left, none_wanted, below_path}
use Rattle.trie_write.proofs.split.split_dimension.Goals.{In-Some-Value}
use Rattle.trie_write.proofs.split.split_dimension.Goals as goal

pub returns-then-path-gt0-clause-value : goal.returns-then-path-gt0-clause-value
returns-then-path-gt0-clause-value c =
    let q : c.in-Some-Value.field-0 ≡ Value = rw c.in-Some-Value.is at c.in-Some-Value.field-0-is in
    rw (c.in-Some-Value.is, q, path_wanted _ _ c.if-path-gt0.true) refl

pub returns-else-path-gt0-clause-value : goal.returns-else-path-gt0-clause-value
returns-else-path-gt0-clause-value c =
    let q : c.in-Some-Value.field-0 ≡ Value = rw c.in-Some-Value.is at c.in-Some-Value.field-0-is in
    rw (c.in-Some-Value.is, q, value_left _ _ c.if-path-gt0.false) refl

pub returns-in-Some-Other-clause-value : goal.returns-in-Some-Other-clause-value
returns-in-Some-Other-clause-value c =
    let q : c.in-Some-Other.field-0 ≡ Other c.in-Some-Other.field-0-0 = rw c.in-Some-Other.is at c.in-Some-Other.field-0-is in
    rw (c.in-Some-Other.is, q, none_wanted) refl

pub returns-in-Some-Path-clause-value : goal.returns-in-Some-Path-clause-value
returns-in-Some-Path-clause-value c =
    let q : c.in-Some-Path.field-0 ≡ Path = rw c.in-Some-Path.is at c.in-Some-Path.field-0-is in
    rw (c.in-Some-Path.is, q, below_path _ _) c.first_differing.ensures.value
