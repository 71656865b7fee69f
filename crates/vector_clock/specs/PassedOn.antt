-- What those above read by this crate of the ones below it.
pub use Rattle.causal_order.specs.Growth.{HasGrown}
