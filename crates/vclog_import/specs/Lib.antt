pub mod Clock
pub mod Faults
pub mod Hosts
pub mod Imported
pub mod Laws
pub mod Lines
pub mod inside
