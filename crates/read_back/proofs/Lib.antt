pub mod Writes
pub mod Ways
pub mod Whole
