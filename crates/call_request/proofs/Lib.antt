pub mod OneQuestion
pub mod SomeQuestion
