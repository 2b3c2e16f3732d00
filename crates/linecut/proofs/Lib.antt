pub mod Feeding
mod Cases
