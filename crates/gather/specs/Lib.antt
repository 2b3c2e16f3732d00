pub mod KeySlots
pub mod Outputs
pub mod Walks
pub mod Visits
pub mod Gathered
