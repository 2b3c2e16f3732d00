pub mod Keys
pub mod Found
pub mod Listings
pub mod Checks
