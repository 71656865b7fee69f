pub mod Leads
pub mod Twinned
pub mod TwinSteps
pub mod CaseSteps
