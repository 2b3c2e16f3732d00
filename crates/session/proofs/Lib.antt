pub mod Keeping
pub mod Enough
pub mod Printing
pub mod Whole
pub mod Said
pub mod Running
pub mod Feeding
