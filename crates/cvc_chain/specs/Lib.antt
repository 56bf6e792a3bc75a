pub mod Text
pub mod Reading
pub mod Replay
pub mod Differing
pub mod Matching
pub mod Verdict
pub mod Examples
pub mod Laws
