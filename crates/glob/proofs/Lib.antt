-- Laws that belong to no function. They are for the proofs of crate matcher too.
pub mod Parts
pub mod Places
pub mod Skips
pub mod Trials
pub mod Cuts
pub mod Begins
mod Shared
pub mod Worked
