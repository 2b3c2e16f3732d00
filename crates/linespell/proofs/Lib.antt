pub mod Writing
pub mod Decimals
mod Cases
