pub mod Following
pub mod Items
pub mod Steps
