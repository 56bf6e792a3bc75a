pub mod Rows
pub mod Misses
pub mod Missed
pub mod Text
pub mod Examples
