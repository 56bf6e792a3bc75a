pub mod Counting
pub mod Lines
pub mod Binding
pub mod Results
pub mod Totals
pub mod Writing
pub mod Pairs
