pub mod Kept
pub mod Ends
pub mod Taken
pub mod TextLines
pub mod FaultLaws
pub mod ReadSteps
pub mod WriteSteps
