pub mod Shapes
mod WorkedTexts
