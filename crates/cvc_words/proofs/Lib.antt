pub mod Worked
pub mod Digits
pub mod Stepping
