pub mod Results
pub mod Rows
pub mod Asked
pub mod Shared
pub mod Sets
pub mod NextPulls
pub mod PassedOn
pub mod Tops
