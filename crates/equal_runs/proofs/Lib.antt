pub mod Filled
pub mod Reports
