pub mod Lines
pub mod Few
pub mod Fine
pub mod Items
pub mod Folded
pub mod Numbered
pub mod Back
pub mod Kept
