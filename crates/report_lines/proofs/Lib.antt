pub mod Cuts
pub mod Formulas
pub mod PartLaws
pub mod LineLaws
pub mod WitnessLaws
pub mod PlainFormulas
pub mod Plain
