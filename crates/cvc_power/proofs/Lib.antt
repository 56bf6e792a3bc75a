pub mod Spans
pub mod Lines
