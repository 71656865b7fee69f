pub mod DraftLaws
pub mod OneSource
pub mod ReadingOn
pub mod Stepping
pub mod Texts
pub mod WholeSources
pub mod Taking
