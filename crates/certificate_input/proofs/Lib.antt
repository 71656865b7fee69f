pub mod PieceLaws
pub mod TellingLaws
