pub mod Steps
pub mod NumberLaws
pub mod WordLaws
pub mod SignedLaws
pub mod ItemLaws
pub mod LineLaws
pub mod FrameLaws
