pub mod Rows
pub mod Tables
pub mod Growing
pub mod Orders
