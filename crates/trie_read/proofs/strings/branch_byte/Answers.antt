-- By how the node above branches.
use mathlib.Core.Path.{◌≡◌, sym, ◌∙◌}
use Rattle.trie_read.specs.declared.kind.Dimension.TheVariants.{Value, Path, Other}
use Rattle.trie_read.proofs.Compare.{branch_value, branch_path, branch_other, branch_root}
use Rattle.trie_read.proofs.strings.branch_byte.Goals as goal

pub returns-in-Some-Value : goal.returns-in-Some-Value
returns-in-Some-Value c =
    let q : c.in-Some-Value.field-0 ≡ Value = rw c.in-Some-Value.is at c.in-Some-Value.field-0-is in
    rw (c.in-Some-Value.is, q) (c.first_byte.ensures ∙ sym (branch_value _ _))

pub returns-in-Some-Path : goal.returns-in-Some-Path
returns-in-Some-Path c =
    let q : c.in-Some-Path.field-0 ≡ Path = rw c.in-Some-Path.is at c.in-Some-Path.field-0-is in
    rw (c.in-Some-Path.is, q) (c.first_byte-in-Some-Path.ensures ∙ sym (branch_path _ _))

pub returns-in-Some-Other : goal.returns-in-Some-Other
returns-in-Some-Other c =
    let q : c.in-Some-Other.field-0 ≡ Other c.in-Some-Other.field-0-0 = rw c.in-Some-Other.is at c.in-Some-Other.field-0-is in
    rw (c.in-Some-Other.is, q) (sym (branch_other _ _ _))

pub returns-in-None : goal.returns-in-None
returns-in-None c = rw c.in-None.is (sym (branch_root _ _))
