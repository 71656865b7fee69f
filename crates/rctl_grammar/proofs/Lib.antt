pub mod Shapes
mod WorkedRows
