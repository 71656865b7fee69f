pub mod Fronts
pub mod Judging
pub mod ToldAnswers
pub mod Asked
pub mod OneLine
pub mod Exact
