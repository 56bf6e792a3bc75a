pub mod Rows
pub mod Power
pub mod Examples
