-- What only the proofs say to each other.
pub mod Lines
