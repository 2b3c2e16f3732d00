-- Lists, strings, dimensions
pub mod Prefix
pub mod Strings
pub mod Round
pub mod Branching
pub mod Free
pub mod Complete
-- Any tries, and sound ones
pub mod Keys
pub mod Search
pub mod Walk
pub mod SoundLaws
pub mod NodeStrings
pub mod Lookup
pub mod Encode
-- Levels
pub mod Parts
pub mod Differ
pub mod Fall
pub mod LevelStep
pub mod LevelKept
pub mod LevelSound
pub mod LevelBytes
pub mod LevelWalk
pub mod Route
-- The small trie
pub mod SmallStep
pub mod SmallKept
pub mod SmallSound
pub mod SmallAscending
pub mod SmallSuffixes
-- Leaves of both
pub mod Rising
-- All of it together
pub mod TrieOf
