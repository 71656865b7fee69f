-- What those above read by this crate of the ones below it.
pub use Rattle.pota_names.specs.Names.{is_name}
