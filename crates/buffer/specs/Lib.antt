pub mod Sizes
pub mod Lists
pub mod Splice
pub mod Numbers
pub mod Text
