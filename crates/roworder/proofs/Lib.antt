pub mod Compare
pub mod Words
pub mod Sorted
pub mod Records
pub mod Keys
pub mod Rows
mod Examples
