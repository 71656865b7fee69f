-- What those above read by this crate of the ones below it.
pub use Rattle.log_intake.specs.PassedOn.{Observation, GrowingView, HasTaken}
pub use Rattle.log_intake.specs.Taking.{GrowsFrom, trace_after, Closes}
