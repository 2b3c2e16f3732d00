pub mod Build
pub mod Nodes
pub mod Steps
