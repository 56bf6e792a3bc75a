pub mod Leak
pub mod Figures
