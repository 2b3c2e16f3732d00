-- The laws of the crates below, passed on, and those of commands.
pub use Rattle.linefields.proofs.Scan
pub use Rattle.linefields.proofs.Hex
pub use Rattle.linespell.proofs.Writing
pub use Rattle.linespell.proofs.Decimals
mod Reading
pub mod Feeding
