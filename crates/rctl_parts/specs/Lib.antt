pub mod Exprs
pub mod Pieces
pub mod Spelled
pub mod MadeFor
