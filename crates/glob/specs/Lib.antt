-- What a reader must believe, from the bytes up. `Inner` is for the private functions.
pub mod Bytes
pub mod Labels
pub mod Fit
pub mod Begins
pub mod Inner
