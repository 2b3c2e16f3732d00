-- Each turn adds what is found in one trie (`searched_next`).
use mathlib.Core.Path.{◌≡◌}
use Rattle.search.specs.Asks.{asks}
use Rattle.store_search.specs.Listing.{TriesSearched}
use Rattle.store_search.proofs.walk.SearchWalk.walk.Given as goal

abbrev pub invariant-loop-k : goal.invariant-loop-k
invariant-loop-k l = record {
  room : l.output.room ≡ l.room;
  same_reference : l.output.bytes.ghost_name ≡ l.initial.output.bytes.ghost_name;
  found : TriesSearched (asks l.self.query) l.self.store.bytes.now l.self.store.front.m l.self.store.front.l l.k l.room l.initial.output.bytes.now l.output.bytes.now l.output.rows l.nodes;
}
