pub mod Widening
pub mod Derivation
pub mod Starting
pub mod Settling
pub mod Supplies
