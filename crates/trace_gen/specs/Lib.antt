pub mod Words
pub mod Making
pub mod Generated
pub mod inside
