pub mod Laws
pub mod Rounds
pub mod Numbering
pub mod Counting
pub mod Settling
pub mod Answering
pub mod inside
