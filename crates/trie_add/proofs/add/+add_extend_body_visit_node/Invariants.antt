-- One addition, three functions that call each other: `depth` falls.
use Prim.Native.Nat.{◌+◌, ◌*◌}
use Rattle.trie_add.proofs.add.+add_extend_body_visit_node.Given as goal

abbrev pub decreases-add : goal.decreases-add
decreases-add l = 3 * l.depth + 2

abbrev pub decreases-extend_body : goal.decreases-extend_body
decreases-extend_body l = 3 * l.depth

abbrev pub decreases-visit_node : goal.decreases-visit_node
decreases-visit_node l = 3 * l.depth + 1
