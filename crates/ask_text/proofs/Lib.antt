pub mod OuterLines
pub mod Steps
pub mod Evidence
pub mod DocumentLines
mod WorkedDocuments
