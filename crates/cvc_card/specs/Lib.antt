pub mod Words
pub mod Forms
pub mod Items
pub mod Parts
pub mod Card
pub mod Refused
pub mod Reading
pub mod Formed
