pub mod NewLeaf
pub mod Inserting
pub mod Differing
