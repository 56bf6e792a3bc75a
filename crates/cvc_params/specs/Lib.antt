pub mod Params
pub mod Places
pub mod Levels
pub mod PairIndexes
pub mod PairLists
pub mod Seen
pub mod Plain
pub mod Sights
