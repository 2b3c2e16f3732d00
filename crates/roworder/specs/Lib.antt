pub mod Sizes
pub mod Entry
pub mod Order
pub mod Sorted
pub mod Records
