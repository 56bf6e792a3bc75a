pub mod AtDevice
pub mod Listed
