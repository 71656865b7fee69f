pub mod Digits
pub mod Known
pub mod Lengths
pub mod Moved
pub mod NumberLaws
