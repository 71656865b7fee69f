pub mod Operators
pub mod Disjuncts
pub mod Answers
pub mod Worked
