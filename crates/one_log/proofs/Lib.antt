pub mod Words
pub mod Pieces
pub mod Kept
pub mod Beginnings
pub mod Batches
pub mod LeftOut
pub mod Written
