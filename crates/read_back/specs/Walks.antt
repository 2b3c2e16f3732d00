-- The records of tries below some nodes. Assumes nothing: these are definitions.
use Rattle.std.specs.Prelude.{ℕ, suc, ◌+◌, List, [], ◌++◌, map}
use Rattle.buffer.specs.Lists.{pick}
use Rattle.trie_theory.specs.Forest.{Strings, Key, Forest, none, leaf, inner, join, under}
use Rattle.gather.specs.KeySlots.{has_slot, key_slot}
use Rattle.read_back.specs.Readings.{record_bytes}
unfoldable pub use Rattle.gather.specs.Visits.{node_of}

-- the record of a key below n nodes
unfoldable pub key_record : ℕ → List ℕ → Key → List ℕ
key_record n way x = record_bytes n way (key_slot x)

-- the records of tries below n nodes, where the bytes k are known above them
unfoldable pub records_below : ℕ → List ℕ → Strings → Forest → List (List ℕ)
records_below n way k none = []
records_below n way k (leaf s ts more) =
    map (key_record (n + 1) (way ++ node_of (join k s) 0)) (pick has_slot (map (under (join k s)) ts)) ++ records_below n way k more
records_below n way k (inner d s children more) =
    records_below (n + 1) (way ++ node_of (join k s) (suc d)) (join k s) children ++ records_below n way k more
