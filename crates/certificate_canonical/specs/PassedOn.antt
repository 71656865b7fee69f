-- What those above read by this crate of the ones below it.
pub use Rattle.certificate.specs.Following.{Follows}
pub use Rattle.certificate.specs.Numbering.{plan_of}
