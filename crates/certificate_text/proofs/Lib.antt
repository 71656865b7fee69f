mod Picks
pub mod Lines
pub mod Accepting
pub mod OneAnswer
pub mod Refusing
