pub mod Sizes
pub mod Spelling
pub mod Put
