pub mod Slots
pub mod Branch
pub mod Found
pub mod Entered
