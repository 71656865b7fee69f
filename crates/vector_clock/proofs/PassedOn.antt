-- Lemmas of the crates below that those above cite by this one.
pub use Rattle.causal_order.proofs.Growing.{grown_none}
pub use Rattle.causal_order.proofs.Orders.{no_events_order}
