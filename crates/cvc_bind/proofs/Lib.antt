pub mod Verdicts
pub mod Sound
pub mod Found
pub mod Marks
pub mod Naming
pub mod Spreading
pub mod BoundCircuits
