pub mod Opening
pub mod Said
pub mod Parts
pub mod Listing
