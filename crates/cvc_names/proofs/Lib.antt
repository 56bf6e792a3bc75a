pub mod Chaining
pub mod Tables
pub mod Lying
pub mod Repeats
