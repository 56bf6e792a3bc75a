pub mod Faults
pub mod Number
pub mod Options
pub mod Command
pub mod Views
