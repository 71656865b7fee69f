pub mod Tallies
pub mod Answers
pub mod Over
pub mod PassedOn
pub mod inside
