pub mod Items
pub mod Reporting
pub mod OneBatch
pub mod Calm
pub mod PassedOn
