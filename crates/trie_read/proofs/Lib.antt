pub mod Stretch
pub mod KindBytes
pub mod Node
pub mod Compare
pub mod SuffixParts
pub mod Among
pub mod Walking
pub mod Seeking
