pub mod Runs
pub mod Words
pub mod Front
pub mod Lexing
pub mod Worked
pub mod inside
