pub use Rattle.linefields.specs.Fields
pub use Rattle.linespell.specs.Spelling
pub use Rattle.linecut.specs.Input
pub mod Sizes
pub mod Meaning
pub mod Reading
