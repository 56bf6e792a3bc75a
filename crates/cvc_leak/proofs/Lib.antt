pub mod AtDevice
pub mod Leaks
pub mod Listed
