pub mod Sizes
pub mod Printed
pub mod Enough
pub mod Keeps
pub mod Whole
pub mod Worked
pub mod Stands
