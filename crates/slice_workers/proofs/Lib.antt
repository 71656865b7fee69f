pub mod Rises
pub mod Reached
pub mod Passes
pub mod Firsts
pub mod Appended
