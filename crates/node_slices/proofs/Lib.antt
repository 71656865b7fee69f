pub mod Tables
pub mod Giving
