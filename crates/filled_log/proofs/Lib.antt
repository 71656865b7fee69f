pub mod Begins
pub mod Steps
pub mod Items
pub mod Whole
pub mod Ends
