pub mod Back
pub mod Graph
pub mod inside
