-- Keys, strings, dimensions
pub mod Forest
pub mod Strings
pub mod Dimensions
-- Levels
pub mod Position
pub mod Parts
pub mod Level
-- The small trie
pub mod SmallTrie
-- What is asked of a trie
pub mod Lookup
pub mod Search
pub mod Walk
-- Its shape, its bytes, and what is proved of it
pub mod Sound
pub mod Size
pub mod Encode
pub mod Entries
pub mod TrieOf
-- Worked by computation
pub mod Computing
pub mod Worked
pub mod WorkedSmall
