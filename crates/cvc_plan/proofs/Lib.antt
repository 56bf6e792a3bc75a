pub mod Lists
pub mod Growing
pub mod Among
pub mod Parts
pub mod Pinned
pub mod Planned
