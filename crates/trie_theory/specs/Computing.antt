-- What is unfolded to compute tries of given keys: whoever unfolds one of these names unfolds all that stands on its line.
use Rattle.std.specs.Prelude.{ℕ}
use Rattle.trie_theory.specs.Forest.{join, under, keys, tops}
use Rattle.buffer.specs.Lists.{any, pick, flat, same}
use Rattle.trie_theory.specs.Strings.{begins, all_begin, common, commons, strip, remains, first}
use Rattle.trie_theory.specs.Dimensions.{next, wanted, seek, turn, branching}
use Rattle.trie_theory.specs.Position.{narrow, shared, position, byte, differ}
use Rattle.trie_theory.specs.Parts.{keep, filled, parts_from, parts}
use Rattle.trie_theory.specs.Level.{choice, node, each, grow, trie, level_of}
use Rattle.trie_theory.specs.SmallTrie.{meets, precedes, new_leaf, two, chosen, differing, split, outcome, added, grown, small_trie}
use Rattle.trie_theory.specs.Lookup.{same_key, among, member}
use Rattle.trie_theory.specs.Search.{branch, enters, nodes_entered, found}
use Rattle.trie_theory.specs.Encode.{suffix_bytes, node_bytes, encode}
use Rattle.buffer.specs.Numbers.{bytes_of}
use Rattle.trie_theory.specs.Walk.{step_at, walk}

unfoldable pub of_strings : ℕ
unfolding join under keys begins all_begin common commons strip remains first any pick same next wanted seek turn
of_strings = 0

unfoldable pub of_a_level : ℕ
unfolding of_strings narrow shared position byte differ keep filled parts_from parts choice node each grow trie level_of step_at walk
of_a_level = 0

unfoldable pub of_a_small_trie : ℕ
unfolding of_strings tops branching meets precedes new_leaf two chosen differing split outcome added grown small_trie
of_a_small_trie = 0

unfoldable pub of_a_search : ℕ
unfolding of_a_small_trie same_key among member branch enters nodes_entered found
of_a_search = 0

unfoldable pub of_bytes : ℕ
unfolding of_a_small_trie flat suffix_bytes bytes_of node_bytes encode
of_bytes = 0
