pub mod Certifying
pub mod Writing
pub mod ToldAnswers
