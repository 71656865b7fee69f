-- What those above read by this crate of the ones below it.
pub use Rattle.pota_base.specs.Number.{◌>>=◌}
pub use Rattle.pota_base.specs.Limits.{deepest, most_nodes}
