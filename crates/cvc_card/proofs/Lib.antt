pub mod Worked
pub mod Fronts
pub mod Plainness
pub mod Gathering
pub mod Finding
pub mod Assembling
pub mod FormNames
pub mod Formed
