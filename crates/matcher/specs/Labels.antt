-- The labels of a path or a pattern, of crate glob.
pub use Rattle.glob.specs.Labels.{up_to_slash, labels_of, deep}
