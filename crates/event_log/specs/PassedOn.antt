-- What those above read by this crate of the ones below it.
pub use Rattle.log_lines.specs.Reading.{choose}
