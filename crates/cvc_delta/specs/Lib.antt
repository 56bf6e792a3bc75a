pub mod Edits
pub mod Left
pub mod Reading
pub mod Rows
pub mod Examples
pub mod Wider
pub mod Session
pub mod Found
