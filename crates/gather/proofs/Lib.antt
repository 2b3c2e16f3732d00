pub mod Filling
pub mod Putting
pub mod Noting
pub mod Splitting
pub mod Turning
pub mod Gathering
