pub mod Powers
pub mod Fresh
pub mod Numbers
pub mod Opening
pub mod Ends
pub mod Places
pub mod ListedRows
pub mod Said
