pub mod Lines
pub mod Missing
pub mod Apart
