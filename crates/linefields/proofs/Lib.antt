pub mod Scan
pub mod Hex
