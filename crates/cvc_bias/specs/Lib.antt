pub mod Bias
pub mod Measured
