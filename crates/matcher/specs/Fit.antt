-- What it is to fit a pattern, of crate glob.
pub use Rattle.glob.specs.Fit.{after_some, first, fits_label, fit_labels, fits_path}
unfoldable pub use Rattle.glob.specs.Fit.{fit}
