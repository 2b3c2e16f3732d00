pub mod Splice
pub mod Turns
pub mod Tests
pub mod Lists
pub mod Sums
pub mod Digits
