pub mod Nets
pub mod Names
pub mod Parts
pub mod Pins
pub mod Plans
pub mod Planning
