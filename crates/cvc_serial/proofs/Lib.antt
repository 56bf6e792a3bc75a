pub mod Levels
pub mod Kept
pub mod Starting
pub mod Derives
pub mod Widens
pub mod Logging
pub mod Settles
pub mod Supplies
