pub mod Outcome
pub mod Further
pub mod Expectations
pub mod Certificates
pub mod Modes
pub mod ModesHeld
pub mod Rechecks
pub mod Sessions
