pub mod Printed
pub mod Refusals
pub mod Counts
pub mod Summary
pub mod Report
