pub mod WholeNumbers
pub mod WordByWord
pub mod Walking
pub mod Taking
pub mod Found
pub mod Names
pub mod Agree
