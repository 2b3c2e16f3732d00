pub mod Keys
pub mod Slots
pub mod Query
pub mod Branch
