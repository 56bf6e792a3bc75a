pub mod Keys
pub mod Places
pub mod Entries
pub mod Tokens
pub mod Stepping
pub mod Walking
