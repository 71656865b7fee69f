-- What those above read by this crate of the ones below it.
pub use Rattle.observation.specs.Fed.{AreFedFrom, AnswersAs}
pub use Rattle.observation.specs.Growing.{HasTaken, GrowingView, opened_growing}
pub use Rattle.observation.specs.declared.observation.Observation.{Observation}
