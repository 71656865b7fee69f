-- What those above read by this crate of the ones below it.
pub use Rattle.question_outcomes.specs.Telling.{HasSystem}
