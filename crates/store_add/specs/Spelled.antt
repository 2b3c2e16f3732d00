-- The key of the tries that an entry has. Assumes nothing: these are definitions.
use Rattle.std.specs.Prelude.{◌≡◌, [], ◌∷◌, ◌++◌}
use Rattle.buffer.specs.Numbers.{bytes_of}
use Rattle.rows.specs.Sizes.{value_size}
use Rattle.rows.specs.Entry.{Entry}
use Rattle.trie_write.specs.declared.key.Key as Code

-- a key of the code is the entry's
pub record Spells (e : Entry) (k : Code.Key) : Type 0 where
  pub value : k.value.now ≡ bytes_of value_size e.value
  pub path : k.path.now ≡ e.path ++ (0 ∷ [])
  pub reference : k.reference.now ≡ e.reference
