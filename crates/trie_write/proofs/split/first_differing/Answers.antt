-- By which string has bytes.
use mathlib.Core.Path.{refl}
use Rattle.trie_write.proofs.Differing.{value_wanted, path_left, none_left}
use Rattle.trie_write.proofs.split.first_differing.Goals as goal

pub returns-then-value-gt0-clause-value : goal.returns-then-value-gt0-clause-value
returns-then-value-gt0-clause-value c = rw (value_wanted _ c.args.path.now c.if-value-gt0.true) refl

pub returns-then-path-gt0-clause-value : goal.returns-then-path-gt0-clause-value
returns-then-path-gt0-clause-value c = rw (path_left _ _ c.if-value-gt0.false c.if-path-gt0.true) refl

pub returns-clause-value : goal.returns-clause-value
returns-clause-value c = rw (none_left _ _ c.if-value-gt0.false c.if-path-gt0.false) refl
