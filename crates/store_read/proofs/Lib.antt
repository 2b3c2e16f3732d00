pub mod Reading
pub mod Promising
