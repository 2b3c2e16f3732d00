pub mod LevelBytes
pub mod FirstTries
pub mod Filling
pub mod Overflowing
