pub mod Certificates
pub mod PassedOn
