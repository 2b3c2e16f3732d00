-- What a reader must believe, from the bytes up. `Reading` and `Worked` show what it means.
pub mod Bytes
pub mod Labels
pub mod Form
pub mod Fit
pub mod Matches
pub mod Continued
pub mod Reach
pub mod Reading
pub mod Worked
