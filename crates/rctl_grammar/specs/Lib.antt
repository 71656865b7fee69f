pub mod Grammar
pub mod Machine
pub mod FirstFault
pub mod Shape
pub mod formers
