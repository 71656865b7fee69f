-- What those above read by this crate of the ones below it.
pub use Rattle.vector_clock.specs.Events.{clocks_of}
pub use Rattle.vector_clock.specs.PassedOn.{HasGrown}
