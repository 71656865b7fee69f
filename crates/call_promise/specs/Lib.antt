pub mod Certificates
pub mod Asking
pub mod Questions
pub mod Run
