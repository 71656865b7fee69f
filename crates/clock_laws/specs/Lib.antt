pub mod Clocked
pub mod Joined
pub mod Laws
pub mod Worked
