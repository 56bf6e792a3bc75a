pub mod Modes
pub mod Words
pub mod Examples
pub mod Checked
pub mod Tasks
pub mod Text
