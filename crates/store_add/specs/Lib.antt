pub mod Small
pub mod Placed
pub mod Checked
pub mod Ready
pub mod Said
pub mod Spelled
