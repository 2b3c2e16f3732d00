pub mod Fronts
pub mod Splitting
pub mod Adding
pub mod First
pub mod Addition
