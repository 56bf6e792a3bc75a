pub mod Walking
pub mod Files
pub mod Items
