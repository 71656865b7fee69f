-- What those above read by this crate of the ones below it.
pub use Rattle.part_pulls.specs.Counters.{counters_of}
pub use Rattle.part_pulls.specs.Later.{IsLater}
pub use Rattle.part_pulls.specs.Observing.{Reading}
