pub mod Sets
pub mod Turning
pub mod Slotted
pub mod Sharing
pub mod Splitting
pub mod Scatter
pub mod ScatterTurn
pub mod Sequence
