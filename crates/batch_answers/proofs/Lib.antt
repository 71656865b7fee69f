pub mod ReadingSteps
pub mod Endings
pub mod Undone
