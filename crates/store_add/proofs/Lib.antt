pub mod Growing
pub mod Accepted
pub mod Held
pub mod Placing
pub mod Looking
pub mod Checks
pub mod Promised
