-- What those above read by this crate of the ones below it.
pub use Rattle.conjunctions.specs.Answering.{IsAnswer}
pub use Rattle.conjunctions.specs.declared.answer.Answer.{Answer}
pub use Rattle.conjunctions.specs.declared.round.Kept.{Kept}
