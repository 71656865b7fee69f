pub mod Beginnings
pub mod Greatest
