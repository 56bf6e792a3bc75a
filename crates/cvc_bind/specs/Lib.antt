pub mod Devices
pub mod Choices
pub mod Nets
pub mod DeclaredNets
pub mod Bound
