pub mod Sizes
pub mod Input
