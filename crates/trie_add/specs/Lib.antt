pub mod Sizes
pub mod Replaced
pub mod Added
