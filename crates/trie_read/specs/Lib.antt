pub mod Sizes
pub mod Kinds
pub mod Shape
pub mod Heads
pub mod Suffixes
pub mod Places
