pub mod Bounds
pub mod Folds
pub mod ByRun
pub mod Settings
pub mod Steps
pub mod Looking
pub mod Walks
