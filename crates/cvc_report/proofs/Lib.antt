pub mod Naming
pub mod Listed
