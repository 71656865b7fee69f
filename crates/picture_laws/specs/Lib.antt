pub mod Lines
pub mod Laws
pub mod Order
pub mod Xml
pub mod WellFormed
