-- Laws that belong to no function. The public ones are for callers' proofs.
mod Table
mod Apart
pub mod Forms
mod Goes
mod Joined
mod Prefixes
pub mod Firsts
pub mod Decided
pub mod Ruled
