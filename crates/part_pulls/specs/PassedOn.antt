-- What those above read by this crate of the ones below it.
pub use Rattle.trace_growth.specs.PassedOn.{clocks_of}
