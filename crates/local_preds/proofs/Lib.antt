pub mod Truths
pub mod Members
pub mod RowSteps
pub mod Expressions
pub mod Meaning
pub mod Growing
