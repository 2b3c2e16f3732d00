pub mod Sets
pub mod Positions
pub mod Partition
