pub mod Worked
pub mod Lines
